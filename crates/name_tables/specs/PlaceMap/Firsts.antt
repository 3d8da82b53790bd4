-- Items of a list that are found by their places.
use Rattle.std.specs.Prelude.{◌≡◌, ℕ, suc, List, [], ◌∷◌, slice_get, Option, Some, None, if◌then◌else◌}
use Rattle.name_rules.specs.Spellings.{Place}
use Rattle.name_rules.specs.Scopes.{is_place}
use Rattle.name_tables.specs.declared.place_map.index.PlaceIndex.{PlaceIndex}
use Rattle.name_tables.specs.PlaceMap.Values.{number_at}

-- the number of the first of some items that is at a place, counted from n on
abbrev pub first_from : {A : Type 0} → (A → Place) → ℕ → List A → Place → Option ℕ
first_from place n [] p = None
first_from place n (x ∷ xs) p = if is_place (place x) p then Some n else first_from place (suc n) xs p

-- the first of some items that is at a place
abbrev pub first_item : {A : Type 0} → (A → Place) → List A → Place → Option A
first_item place [] p = None
first_item place (x ∷ xs) p = if is_place (place x) p then Some x else first_item place xs p

-- the item of a number, where there is one
abbrev pub item_of : {A : Type 0} → List A → Option ℕ → Option A
item_of xs None = None
item_of xs (Some n) = slice_get xs n

-- each place has the number of the first item there
pub record AreFirst {A : Type 0} (place : A → Place) (xs : List A) (index : PlaceIndex) : Type 0 where
  pub same : (p : Place) → number_at index p ≡ first_from place 0 xs p
