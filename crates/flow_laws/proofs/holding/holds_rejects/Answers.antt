use Rattle.flow_laws.proofs.MainPath.{holds_rejects}
use Rattle.flow_laws.proofs.holding.holds_rejects.Goals as goal

pub returns : goal.returns
returns c = holds_rejects
