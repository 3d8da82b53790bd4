use Rattle.flow_laws.proofs.Accept.{kept_is_accepted}
use Rattle.flow_laws.proofs.accepting.kept_is_accepted.Goals as goal

pub returns : goal.returns
returns c = kept_is_accepted
