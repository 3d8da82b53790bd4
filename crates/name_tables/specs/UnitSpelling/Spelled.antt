-- What the vectors of a spelling say of tokens and names.
use Rattle.std.specs.Prelude.{false, slice_get, unwrap_or}
use Rattle.name_rules.specs.Spellings as rules
use Rattle.name_tables.specs.declared.unit_spelling.spelling.Spelling.{Spelling}

-- what is read from the tokens of a unit, as the definitions have it; a name past the keys is its own key
abbrev pub spelling_of : Spelling → rules.Spelling
spelling_of s =
    record {
      unit = s.unit;
      wide = s.wide;
      annotates = λ token. unwrap_or (slice_get s.annotates.items token) false;
      is_naught = λ token. unwrap_or (slice_get s.is_naught.items token) false;
      key = λ name. unwrap_or (slice_get s.keys.items name) name;
    }
