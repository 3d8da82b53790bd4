use Rattle.token_places.proofs.Groups.{group_law}
use Rattle.token_places.proofs.laws.groups_are_completed.Goals as goal

pub returns : goal.returns
returns c = group_law
