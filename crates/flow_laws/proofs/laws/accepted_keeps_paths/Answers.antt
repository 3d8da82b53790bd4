use Rattle.flow_laws.proofs.Force.{accepted_keeps_paths}
use Rattle.flow_laws.proofs.laws.accepted_keeps_paths.Goals as goal

pub returns : goal.returns
returns c = accepted_keeps_paths
