use Rattle.flow_laws.proofs.Force.{leads_force}
use Rattle.flow_laws.proofs.laws.leads_force.Goals as goal

pub returns : goal.returns
returns c = leads_force
