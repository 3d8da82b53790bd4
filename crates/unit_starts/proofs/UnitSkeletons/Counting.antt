-- Numbers of places.
use Rattle.std.proofs.Common.{◌≡◌, ◌<◌, ℕ, suc, ◌+◌, arith, Bool, true, false, List, [], ◌∷◌, ◌++◌, length, Option, Some, None, refl, sym, ◌∙◌, ap, length-append, if◌then◌else◌}
use Rattle.std.specs.Prelude.{unwrap_or}
use Rattle.name_rules.specs.Spellings.{Place}
use Rattle.name_rules.specs.Scopes.{is_place}
use Rattle.name_tables.specs.declared.place_map.index.PlaceIndex.{PlaceIndex}
use Rattle.name_tables.specs.PlaceMap.Values.{number_at, or_else, there}
use Rattle.row_rules.specs.Worlds.{number_among}
use Rattle.unit_starts.specs.UnitSkeletons.Numbers.{place_among, AreNumbered}

-- the number of a place among others is its index from n on, or past all where it is not there
pub number_counted : (n : ℕ) (places : List Place) (p : Place)
    → number_among n places p ≡ unwrap_or (place_among n places p) (n + length places)
number_counted n [] p = omega arith
number_counted n (q ∷ places) p = by_test (is_place q p) (number_counted (suc n) places p)
  where
    by_test : (b : Bool)
        → number_among (suc n) places p ≡ unwrap_or (place_among (suc n) places p) (suc n + length places)
        → (if b then n else number_among (suc n) places p)
        ≡ unwrap_or (if b then Some n else place_among (suc n) places p) (n + suc (length places))
    by_test true is = refl
    by_test false is =
        let e : suc n + length places ≡ n + suc (length places) = omega arith in
        is ∙ ap (unwrap_or (place_among (suc n) places p)) e

pub some_number : (places : List Place) (p : Place) (n : ℕ) → place_among 0 places p ≡ Some n
    → n ≡ number_among 0 places p
some_number places p n is =
    sym (number_counted 0 places p ∙ ap (λ (o : Option ℕ). unwrap_or o (0 + length places)) is)

-- a place that is not among others has their count as its number
pub no_number : (places : List Place) (p : Place) → place_among 0 places p ≡ None
    → length places ≡ number_among 0 places p
no_number places p is =
    let e : length places ≡ 0 + length places = omega arith in
    e ∙ sym (number_counted 0 places p ∙ ap (λ (o : Option ℕ). unwrap_or o (0 + length places)) is)

-- the index of a place among others with one more at their end is that among them, or else the last, where it is there
pub place_next : (n : ℕ) (places : List Place) (at p : Place)
    → place_among n (places ++ at ∷ []) p ≡ or_else (place_among n places p) (there at (n + length places) p)
place_next n [] at p = let e : n ≡ n + 0 = omega arith in
    ap (λ (k : ℕ). if is_place at p then Some k else None) e
place_next n (q ∷ places) at p = by_test (is_place q p) (place_next (suc n) places at p)
  where
    by_test : (b : Bool)
        → place_among (suc n) (places ++ at ∷ []) p
        ≡ or_else (place_among (suc n) places p) (there at (suc n + length places) p)
        → (if b then Some n else place_among (suc n) (places ++ at ∷ []) p)
        ≡ or_else (if b then Some n else place_among (suc n) places p) (there at (n + suc (length places)) p)
    by_test true is = refl
    by_test false is =
        let e : suc n + length places ≡ n + suc (length places) = omega arith in
        is ∙ ap (λ (k : ℕ). or_else (place_among (suc n) places p) (there at k p)) e

-- an index of places to which one more is added, at their count, numbers the places with it
pub numbered_next : (all new : List Place) (map after : PlaceIndex) (at : Place) (k : ℕ) → AreNumbered all map
    → new ≡ all ++ at ∷ [] → k ≡ length all → k < 4294967295
    → ((p : Place) → number_at after p ≡ or_else (number_at map p) (there at k p)) → AreNumbered new after
numbered_next all new map after at k it is count few added = record {
  few = let e = ap (λ (l : List Place). length l) is in let a = length-append all (at ∷ []) in omega arith;
  numbers = λ p. added p
      ∙ ap (λ (o : Option ℕ). or_else o (there at k p)) (it.numbers p)
      ∙ ap (λ (n : ℕ). or_else (place_among 0 all p) (there at n p)) (let e : k ≡ 0 + length all = omega arith in e)
      ∙ sym (place_next 0 all at p) ∙ ap (λ (l : List Place). place_among 0 l p) (sym is);
}
