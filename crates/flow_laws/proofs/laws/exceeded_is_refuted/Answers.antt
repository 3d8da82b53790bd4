use Rattle.flow_laws.proofs.Force.{exceeded_is_refuted}
use Rattle.flow_laws.proofs.laws.exceeded_is_refuted.Goals as goal

pub returns : goal.returns
returns c = exceeded_is_refuted
