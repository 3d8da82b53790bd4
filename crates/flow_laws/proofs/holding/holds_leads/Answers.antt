use Rattle.flow_laws.proofs.MainPath.{holds_leads}
use Rattle.flow_laws.proofs.holding.holds_leads.Goals as goal

pub returns : goal.returns
returns c = holds_leads
