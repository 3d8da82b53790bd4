use Rattle.owned_laws.proofs.ScopeLaws.Apart.{declarations_differ}
use Rattle.owned_laws.proofs.scope_laws.laws.declarations_differ.Goals as goal

pub returns : goal.returns
returns c = declarations_differ c.names_of_tapes.ensures
