use Rattle.owned_laws.proofs.OwnerLaws.Sites.{calls_lead}
use Rattle.owned_laws.proofs.owner_laws.laws.calls_lead.Goals as goal

pub returns : goal.returns
returns c = calls_lead c.crossings_lead.ensures
