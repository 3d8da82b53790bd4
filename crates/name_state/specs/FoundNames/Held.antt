-- What is true of names of several units.
use Rattle.std.specs.Prelude.{◌≡◌, ℕ}
use Rattle.type_table.specs.Types.{CType}
use Rattle.name_rules.specs.Spellings.{Place}
use Rattle.name_state.specs.NameLinks.Tables.{linked_by}
use Rattle.name_rules.specs.Linking.{link_of}
use Rattle.name_state.specs.UnitNames.Shown.{names_of}
use Rattle.name_state.specs.declared.found_names.found.FoundNames.TheInside.{Inside}

-- the links that were found are those of the names, whatever their types are
pub record AreFound (s : Inside) : Type 0 where
  pub links : (t : ℕ → CType) (at : Place) → linked_by s.links at ≡ link_of (names_of t s.names) at
