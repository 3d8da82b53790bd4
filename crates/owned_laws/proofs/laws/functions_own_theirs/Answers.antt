use Rattle.owned_laws.proofs.Whole.{functions_own_theirs}
use Rattle.owned_laws.proofs.laws.functions_own_theirs.Goals as goal

-- each function owns the variables of its skeleton, in units that were read and differ in number
pub returns : goal.returns
returns c = functions_own_theirs (record {
  tapes = c.tapes_fit.ensures;
  rows = c.rows_are_found.ensures;
  begins = c.starts_are_found.ensures;
  lists = c.fitting_is_well_owned.ensures.lists;
  whole = c.fitting_is_well_owned.ensures.whole;
  names = c.names_of_tapes.ensures;
  meanings = c.meanings_are_first.ensures;
  bracketed = c.items_are_bracketed.ensures;
  keys = c.keys_differ.ensures;
  differ = c.declarations_differ.ensures;
  apart = c.names_are_apart.ensures;
  stays = c.names_stay.ensures;
}) c.skeletons_are_owned.ensures.found
