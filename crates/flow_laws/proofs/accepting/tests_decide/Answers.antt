use Rattle.flow_laws.proofs.Deciding.{tests_decide}
use Rattle.flow_laws.proofs.accepting.tests_decide.Goals as goal

pub returns : goal.returns
returns c = tests_decide
