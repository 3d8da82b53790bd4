use Rattle.flow_laws.proofs.MainPath.{holds_is_unmet}
use Rattle.flow_laws.proofs.holding.holds_is_unmet.Goals as goal

pub returns : goal.returns
returns c = holds_is_unmet
