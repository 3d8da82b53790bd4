use Rattle.owned_laws.proofs.OwnerLaws.Rows.{parts_inside}
use Rattle.owned_laws.proofs.owner_laws.laws.parts_stay.Goals as goal

pub returns : goal.returns
returns c = parts_inside
