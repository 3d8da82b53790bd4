use Rattle.owned_laws.proofs.Whole.{systems_are_owned}
use Rattle.owned_laws.proofs.laws.systems_are_owned.Goals as goal

-- the system of units that were read and differ in number is well owned
pub returns : goal.returns
returns c = systems_are_owned (record {
  tapes = c.tapes_fit.ensures;
  rows = c.rows_are_found.ensures;
  begins = c.starts_are_found.ensures;
  lists = c.fitting_is_well_owned.ensures.lists;
  whole = c.fitting_is_well_owned.ensures.whole;
  names = c.names_of_tapes.ensures;
  meanings = c.meanings_are_first.ensures;
  bracketed = c.items_are_bracketed.ensures;
  keys = c.keys_differ.ensures;
  differ = c.declarations_differ.ensures;
  apart = c.names_are_apart.ensures;
  stays = c.names_stay.ensures;
})
