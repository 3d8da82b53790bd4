use Rattle.owned_laws.proofs.ScopeLaws.Apart.{names_are_apart}
use Rattle.owned_laws.proofs.scope_laws.laws.names_are_apart.Goals as goal

pub returns : goal.returns
returns c = names_are_apart c.names_of_tapes.ensures
