use Rattle.flow_laws.proofs.Force.{no_constant_is_accepted}
use Rattle.flow_laws.proofs.laws.no_constant_is_accepted.Goals as goal

pub returns : goal.returns
returns c = no_constant_is_accepted
