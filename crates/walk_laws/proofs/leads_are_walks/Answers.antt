use Rattle.walk_laws.proofs.Walks.{leads_are_walks}
use Rattle.walk_laws.proofs.leads_are_walks.Goals as goal

pub returns : goal.returns
returns c = leads_are_walks
