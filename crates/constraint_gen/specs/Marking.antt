-- What annotation words name, unit by unit.
use Rattle.std.specs.Prelude.{◌≡◌, ℕ, nat_eq, Bool, true, false, List, [], ◌∷◌, if◌then◌else◌}
use Rattle.c_lexer.specs.Tokens.{Lexed}
use Rattle.name_rules.specs.Spellings.{Place}
use Rattle.name_tables.specs.declared.place_map.map.PlaceMap.{PlaceMap}
use Rattle.name_tables.specs.PlaceMap.Values.{value_at}
use Rattle.unit_system.specs.SourceMarks.Marks.{mark_among}

-- one of some units has this number
abbrev pub has_unit : List Lexed → ℕ → Bool
has_unit [] unit = false
has_unit (lexed ∷ units) unit = if nat_eq lexed.unit unit then true else has_unit units unit

-- a map has what the words of units name, and nothing else
abbrev pub AreMarks : List Lexed → PlaceMap (ℕ × ℕ) → Type 0
AreMarks units found = (p : Place) → value_at found p ≡ mark_among units p

-- no two units have one number
abbrev pub NumbersDiffer : List Lexed → Type 0
NumbersDiffer [] = Unit {0}
NumbersDiffer (lexed ∷ units) = (has_unit units lexed.unit ≡ false) × NumbersDiffer units
