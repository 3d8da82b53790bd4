-- Items of a list that are found by their places.
use Rattle.std.proofs.Common.{◌≡◌, ℕ, zero, suc, ◌+◌, ◌<◌, arith, Bool, true, false, List, [], ◌∷◌, ◌++◌, length, map, drop, slice_index_or, Option, Some, None, option_map, refl, sym, ◌∙◌, ap, if◌then◌else◌}
use Rattle.name_rules.specs.Spellings.{Place}
use Rattle.name_rules.specs.Scopes.{is_place}
use Rattle.name_tables.specs.declared.place_map.index.PlaceIndex.{PlaceIndex}
use Rattle.name_tables.specs.PlaceMap.Values.{number_at, or_else, there}
use Rattle.name_tables.specs.PlaceMap.Firsts.{first_from, first_item, item_of, AreFirst}
use Rattle.name_tables.proofs.PlaceMap.Adding.{or_assoc}

module _ {A : Type 0} (place : A → Place) where
  next_from : (n : ℕ) (xs : List A) (p : Place)
      → first_from place (suc n) xs p ≡ option_map suc (first_from place n xs p)
  next_from n [] p = refl
  next_from n (x ∷ xs) p = by_test (is_place (place x) p) (next_from (suc n) xs p)
    where
      by_test : (b : Bool) → first_from place (suc (suc n)) xs p ≡ option_map suc (first_from place (suc n) xs p)
          → (if b then Some (suc n) else first_from place (suc (suc n)) xs p)
          ≡ option_map suc (if b then Some n else first_from place (suc n) xs p)
      by_test true is = refl
      by_test false is = is

  item_behind : (x : A) (xs : List A) (o : Option ℕ) → item_of (x ∷ xs) (option_map suc o) ≡ item_of xs o
  item_behind x xs None = refl
  item_behind x xs (Some n) = refl

  -- the item with the number of the first is the first
  pub item_is : (xs : List A) (p : Place) → item_of xs (first_from place 0 xs p) ≡ first_item place xs p
  item_is [] p = refl
  item_is (x ∷ xs) p = by_test (is_place (place x) p) (item_is xs p)
    where
      by_test : (b : Bool) → item_of xs (first_from place 0 xs p) ≡ first_item place xs p
          → item_of (x ∷ xs) (if b then Some 0 else first_from place 1 xs p)
          ≡ (if b then Some x else first_item place xs p)
      by_test true is = refl
      by_test false is = ap (item_of (x ∷ xs)) (next_from 0 xs p) ∙ item_behind x xs (first_from place 0 xs p) ∙ is

  -- one more item at the end
  first_append : (n : ℕ) (xs : List A) (x : A) (p : Place)
      → first_from place n (xs ++ x ∷ []) p ≡ or_else (first_from place n xs p) (there (place x) (n + length xs) p)
  first_append n [] x p = let e : n ≡ n + 0 = omega arith in ap (λ (k : ℕ). there (place x) k p) e
  first_append n (y ∷ xs) x p = by_test (is_place (place y) p) (first_append (suc n) xs x p)
    where
      by_test : (b : Bool)
          → first_from place (suc n) (xs ++ x ∷ []) p
          ≡ or_else (first_from place (suc n) xs p) (there (place x) (suc n + length xs) p)
          → (if b then Some n else first_from place (suc n) (xs ++ x ∷ []) p)
          ≡ or_else (if b then Some n else first_from place (suc n) xs p) (there (place x) (n + suc (length xs)) p)
      by_test true is = refl
      by_test false is =
          let e : suc n + length xs ≡ n + suc (length xs) = omega arith in
          is ∙ ap (λ (k : ℕ). or_else (first_from place (suc n) xs p) (there (place x) k p)) e

  -- an item that is pushed has its number added
  pub first_next : (xs new : List A) (x : A) (n : ℕ) (before after : PlaceIndex) → AreFirst place xs before
      → new ≡ xs ++ x ∷ [] → n ≡ length xs
      → ((p : Place) → number_at after p ≡ or_else (number_at before p) (there (place x) n p))
      → AreFirst place new after
  first_next xs new x n before after first is at added = record {
    same = λ p. added p
        ∙ ap (λ (o : Option ℕ). or_else o (there (place x) n p)) (first.same p)
        ∙ ap (λ (k : ℕ). or_else (first_from place 0 xs p) (there (place x) k p))
        (let e : n ≡ 0 + length xs = omega arith in e)
        ∙ sym (first_append 0 xs x p) ∙ ap (λ (l : List A). first_from place 0 l p) (sym is);
  }

  -- an index in which nothing changes
  pub first_kept : (xs new : List A) (before after : PlaceIndex) → AreFirst place xs before → new ≡ xs
      → ((p : Place) → number_at after p ≡ number_at before p) → AreFirst place new after
  first_kept xs new before after first is same = record {
    same = λ p. same p ∙ first.same p ∙ ap (λ (l : List A). first_from place 0 l p) (sym is);
  }

  -- the next of a list has its number added
  pub numbers_on : (xs : List A) (i n : ℕ) (x : A) (before after : PlaceIndex) → x ≡ slice_index_or xs i x
      → i < length xs
      → ((p : Place) → number_at after p ≡ or_else (number_at before p) (there (place x) n p)) → (p : Place)
      → or_else (number_at after p) (first_from place (n + 1) (drop (i + 1) xs) p)
      ≡ or_else (number_at before p) (first_from place n (drop i xs) p)
  numbers_on [] i n x before after is lt added p = absurd (omega arith)
  numbers_on (y ∷ xs) zero n x before after is lt added p =
      let e : n + 1 ≡ suc n = omega arith in
      ap (λ (k : ℕ). or_else (number_at after p) (first_from place k xs p)) e
      ∙ ap (λ (o : Option ℕ). or_else o (first_from place (suc n) xs p)) (added p)
      ∙ or_assoc (number_at before p) (there (place x) n p) (first_from place (suc n) xs p)
      ∙ ap (λ (z : A). or_else (number_at before p) (or_else (there (place z) n p) (first_from place (suc n) xs p))) is
      ∙ ap (or_else (number_at before p)) (by_test (is_place (place y) p))
    where
      by_test : (b : Bool) → or_else (if b then Some n else None) (first_from place (suc n) xs p)
          ≡ (if b then Some n else first_from place (suc n) xs p)
      by_test true = refl
      by_test false = refl
  numbers_on (y ∷ xs) (suc i) n x before after is lt added p =
      let e : suc i + 1 ≡ suc (i + 1) = omega arith in
      rw e (numbers_on xs i n x before after is (omega arith) added p)

-- the places of what is made of items
pub first_map : {A B : Type 0} (place : B → Place) (f : A → B) (n : ℕ) (xs : List A) (p : Place)
    → first_from place n (map f xs) p ≡ first_from (λ x. place (f x)) n xs p
first_map place f n [] p = refl
first_map place f n (x ∷ xs) p =
    ap (λ (o : Option ℕ). if is_place (place (f x)) p then Some n else o) (first_map place f (suc n) xs p)
