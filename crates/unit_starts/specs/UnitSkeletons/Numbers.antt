-- Places by numbers.
use Rattle.std.specs.Prelude.{◌≡◌, ◌<◌, ◌^◌, ℕ, suc, List, [], ◌∷◌, length, Option, Some, None, if◌then◌else◌}
use Rattle.name_rules.specs.Spellings.{Place}
use Rattle.name_rules.specs.Scopes.{is_place}
use Rattle.name_tables.specs.declared.place_map.index.PlaceIndex.{PlaceIndex}
use Rattle.name_tables.specs.PlaceMap.Values.{number_at}

-- the number of the first that is at a place, counted from n on
abbrev pub place_among : ℕ → List Place → Place → Option ℕ
place_among n [] p = None
place_among n (q ∷ places) p = if is_place q p then Some n else place_among (suc n) places p

-- an index has the number of the first one at each place
pub record AreNumbered (all : List Place) (index : PlaceIndex) : Type 0 where
  pub few : length all < 2 ^ 32
  pub numbers : (p : Place) → number_at index p ≡ place_among 0 all p
