use Rattle.owned_laws.proofs.OwnerLaws.Instances.{instances_fit}
use Rattle.owned_laws.proofs.owner_laws.laws.instances_fit.Goals as goal

pub returns : goal.returns
returns c = instances_fit c.calls_lead.ensures
