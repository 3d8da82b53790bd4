use Rattle.flow_laws.proofs.Force.{one_copy_serves}
use Rattle.flow_laws.proofs.laws.one_copy_serves.Goals as goal

pub returns : goal.returns
returns c = one_copy_serves
