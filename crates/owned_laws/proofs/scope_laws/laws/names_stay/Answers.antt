use Rattle.owned_laws.proofs.ScopeLaws.Whole.{names_stay}
use Rattle.owned_laws.proofs.scope_laws.laws.names_stay.Goals as goal

pub returns : goal.returns
returns c = names_stay c.names_of_tapes.ensures c.items_are_bracketed.ensures
