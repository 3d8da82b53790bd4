-- The lattice and the element that each annotation word names.
use Rattle.std.specs.Prelude.{◌≡◌, ℕ, nat_eq, nat_lt, ◌&&◌, List, [], ◌∷◌, slice_get, Option, None, option_map, unwrap_or, if◌then◌else◌}
use Rattle.c_lexer.specs.Tokens.{Lexed, mark_of_kind}
use Rattle.name_rules.specs.Spellings.{Place}
use Rattle.name_rules.specs.Scopes.{is_place}
use Rattle.name_tables.specs.declared.place_map.map.PlaceMap.{PlaceMap}
use Rattle.name_tables.specs.PlaceMap.Values.{value_at, or_else}

-- what the token of a number names
abbrev pub mark_at : Lexed → ℕ → Option (ℕ × ℕ)
mark_at lexed n = unwrap_or (option_map (λ token. mark_of_kind lexed token.kind) (slice_get lexed.tokens n)) None

-- what the token at a place names
abbrev pub mark_in : Lexed → Place → Option (ℕ × ℕ)
mark_in lexed p = if nat_eq lexed.unit p.0 then mark_at lexed p.1 else None

-- what the token at a place names, among units; of several with one number the first counts
abbrev pub mark_among : List Lexed → Place → Option (ℕ × ℕ)
mark_among [] p = None
mark_among (lexed ∷ units) p = if nat_eq lexed.unit p.0 then mark_at lexed p.1 else mark_among units p

-- what the token at a place names, where it is one of the first n tokens of a unit
abbrev pub mark_before : Lexed → ℕ → Place → Option (ℕ × ℕ)
mark_before lexed n p = if nat_eq lexed.unit p.0 && nat_lt p.1 n then mark_at lexed p.1 else None

-- what the token at a place names, where it is this one of a unit
abbrev pub mark_there : Lexed → ℕ → Place → Option (ℕ × ℕ)
mark_there lexed n p = if is_place (lexed.unit, n) p then mark_at lexed n else None

-- what is found behind an adding of marks: they come first
abbrev pub IsMarked : (Place → Option (ℕ × ℕ)) → PlaceMap (ℕ × ℕ) → PlaceMap (ℕ × ℕ) → Type 0
IsMarked mark old new = (p : Place) → value_at new p ≡ or_else (mark p) (value_at old p)
