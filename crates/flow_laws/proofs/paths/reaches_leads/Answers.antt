use Rattle.flow_laws.proofs.Testing.{reaches_leads}
use Rattle.flow_laws.proofs.paths.reaches_leads.Goals as goal

pub returns : goal.returns
returns c = reaches_leads
