-- Names of sources: the last one, and those from one on; and how many bytes a source may have.
use Rattle.std.proofs.Common.{◌≡◌, arith, ◌<◌, ◌≤◌, ◌+◌, ◌-◌, Bool, true, false, ℕ, zero, suc, List, [], ◌∷◌, drop, length, map, Option, Some, None, Bor, refl, sym, ◌∙◌, ap, leb-false, leb-true, nat_le}
use Rattle.std.specs.Prelude.{min, slice_get, slice_index_or, if◌then◌else◌}
use Rattle.std.proofs.lemmas.List.{drop_all, length-map}
use Rattle.cqual_tool.specs.Programs.{last_of}
use Rattle.cqual_tool.specs.Outcome.{limit_in, source_limit}

abbrev text_or : Option (Bor (List ℕ)) → List ℕ
text_or None = []
text_or (Some name) = name.now

-- the last source

-- the last of the names of sources is the one at the index of their count less 1, or empty where there are none
last_name : (names : List (Bor (List ℕ)))
    → text_or (slice_get names (length names - 1)) ≡ last_of (map (λ name. name.now) names)
last_name [] = refl
last_name (n ∷ []) = refl
last_name (n ∷ m ∷ more) =
    let e : length (n ∷ m ∷ more) - 1 ≡ suc (length (m ∷ more) - 1) = omega arith in
    ap (λ (i : ℕ). text_or (slice_get (n ∷ m ∷ more) i)) e ∙ last_name (m ∷ more)

pub last_is : (names : List (Bor (List ℕ))) (name : Bor (List ℕ)) → Some name ≡ slice_get names (length names - 1)
    → name.now ≡ last_of (map (λ name. name.now) names)
last_is names name is = ap text_or is ∙ last_name names

-- the sources from one on

-- names from an index on are the name at this index and those from the next index on
pub drop_from : (names : List (List ℕ)) (i : ℕ) (name : List ℕ) → slice_get names i ≡ Some name
    → drop i names ≡ name ∷ drop (i + 1) names
drop_from [] i name is = absurd cc
drop_from (n ∷ names) zero name is = let same : n ≡ name = cc in ap (λ (m : List ℕ). m ∷ names) same
drop_from (n ∷ names) (suc i) name is =
    let e : suc i + 1 ≡ suc (i + 1) = omega arith in
    rw e (drop_from names i name is)

-- an index at which there is a name is below the count of the names
pub within : (names : List (List ℕ)) (i : ℕ) (name : List ℕ) → slice_get names i ≡ Some name → i < length names
within [] i name is = absurd cc
within (n ∷ names) zero name is = omega arith
within (n ∷ names) (suc i) name is = let deeper = within names i name is in omega (arith, deeper)

-- from an index without a name on there are no names
pub none_left : (names : List (List ℕ)) (i : ℕ) → slice_get names i ≡ None → drop i names ≡ []
none_left [] zero none = refl
none_left [] (suc i) none = refl
none_left (n ∷ names) zero none = absurd cc
none_left (n ∷ names) (suc i) none = none_left names i none

-- the most bytes of a source where so many are left
pub limit_is : (left limit : ℕ) → limit ≡ min left source_limit → limit ≡ limit_in left
limit_is left limit is = by (nat_le left source_limit) refl
  where
    by : (b : Bool) → nat_le left source_limit ≡ b → limit ≡ (if b then left else source_limit)
    by true e = let le : left ≤ source_limit = leb-true left source_limit e in omega (arith, le, is)
    by false e = let gt : source_limit < left = leb-false left source_limit e in omega (arith, gt, is)
