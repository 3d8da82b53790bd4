-- Names with a comma between two, as the state of the loop over them.
use Rattle.std.specs.Prelude.{Bool, List, [], ◌∷◌, None, if◌then◌else◌}
use Rattle.c_syntax.specs.declared.parts.Identifier.{Identifier}
use Rattle.c_reading.specs.Reading.{Reader, Turn, CommaList, comma_turn, run}
use Rattle.c_reading.specs.Tokens.{name_at}
use Rattle.c_reading.specs.Declaring.{identifier_at, next_name}

-- names so far, as a list that no comma ended
abbrev pub known_names : List Identifier → CommaList Identifier ⊥
known_names names = record { items = names; ending = None }

-- any names, or none that is a typedef name
unfoldable pub name_turn : Bool → Turn (CommaList Identifier ⊥)
name_turn any known s ts = comma_turn (next_name (if any then name_at else identifier_at)) known s ts

-- the names behind the first
abbrev pub behind_name : Bool → Identifier → Reader (CommaList Identifier ⊥)
behind_name any first s ts = run (name_turn any) (known_names (first ∷ [])) s ts
