use Rattle.flow_laws.proofs.Inside.{list_is_solution}
use Rattle.flow_laws.proofs.laws.list_is_solution.Goals as goal

pub returns : goal.returns
returns c = list_is_solution
