use Rattle.flow_laws.proofs.Accept.{over_is_exceeded}
use Rattle.flow_laws.proofs.accepting.over_is_exceeded.Goals as goal

pub returns : goal.returns
returns c = over_is_exceeded
