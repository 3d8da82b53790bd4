use Rattle.flow_laws.proofs.Force.{paths_refute}
use Rattle.flow_laws.proofs.laws.paths_refute.Goals as goal

pub returns : goal.returns
returns c = paths_refute
