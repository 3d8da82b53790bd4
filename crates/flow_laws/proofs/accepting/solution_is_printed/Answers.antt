use Rattle.flow_laws.proofs.Accept.{solution_is_printed}
use Rattle.flow_laws.proofs.accepting.solution_is_printed.Goals as goal

pub returns : goal.returns
returns c = solution_is_printed
