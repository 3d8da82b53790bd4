use Rattle.owned_laws.proofs.TapeLaws.Trees.{items_are_bracketed}
use Rattle.owned_laws.proofs.tape_laws.laws.items_are_bracketed.Goals as goal

pub returns : goal.returns
returns c = items_are_bracketed
