use Rattle.flow_laws.proofs.Accept.{exceeded_is_over}
use Rattle.flow_laws.proofs.accepting.exceeded_is_over.Goals as goal

pub returns : goal.returns
returns c = exceeded_is_over
