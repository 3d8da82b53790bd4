use Rattle.flow_rules.proofs.Ends.{cross_leads}
use Rattle.flow_rules.proofs.laws.crossings_lead.Goals as goal

pub returns : goal.returns
returns c = cross_leads
