use Rattle.whole_laws.proofs.Whole.{places_differ}
use Rattle.whole_laws.proofs.laws.places_differ.Goals as goal

-- no two declarations, uses, skeletons or selections of units that were read are at one place
pub returns : goal.returns
returns c =
    places_differ c.keys_differ.ensures c.names_of_tapes.ensures c.declarations_differ.ensures
    c.starts_of_program_are_found.ensures c.selections_of_program_are_found.ensures
