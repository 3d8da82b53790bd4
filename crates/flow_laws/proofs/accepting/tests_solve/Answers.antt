use Rattle.flow_laws.proofs.Deciding.{tests_solve}
use Rattle.flow_laws.proofs.accepting.tests_solve.Goals as goal

pub returns : goal.returns
returns c = tests_solve
