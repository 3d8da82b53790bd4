use Rattle.flow_laws.proofs.Lower.{lower_is_met}
use Rattle.flow_laws.proofs.laws.lower_is_met.Goals as goal

pub returns : goal.returns
returns c = lower_is_met
