use Rattle.flow_laws.proofs.Inside.{leads_inside}
use Rattle.flow_laws.proofs.paths.leads_inside.Goals as goal

pub returns : goal.returns
returns c = leads_inside
