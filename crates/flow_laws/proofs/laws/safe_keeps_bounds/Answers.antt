use Rattle.flow_laws.proofs.Leads.{safe_keeps_bounds}
use Rattle.flow_laws.proofs.laws.safe_keeps_bounds.Goals as goal

pub returns : goal.returns
returns c = safe_keeps_bounds
