-- The lattices of which no word is written on a type.
use Rattle.std.proofs.Common.{◌≡◌, ℕ, zero, suc, ◌+◌, ◌*◌, ◌^◌, ◌<◌, ◌≤◌, nat_eq, Bool, true, false, ◌||◌, List, [], ◌∷◌, ◌++◌, length, drop, slice_index_or, Some, None, refl, sym, ◌∙◌, ap, arith, if◌then◌else◌}
use Rattle.std.proofs.Math.Nat.{pow-suc}
use Rattle.qual_base.proofs.Tests.{or_false}
use Rattle.lattice_core.specs.View.{LatticeView}
use Rattle.type_table.specs.Types.{Words}
use Rattle.name_rules.specs.Spellings.{Place}
use Rattle.row_rules.specs.Worlds.{World}
use Rattle.row_rules.specs.Annotations.{names_lattice, uncut_from}

or_or : (a b c : Bool) → (a || b) || c ≡ a || (b || c)
or_or true b c = refl
or_or false b c = refl

module _ (w : World) (l : ℕ) where
  pub marked_so : (p : Place) (m : ℕ × ℕ) → w.mark p ≡ Some m → nat_eq m.0 l ≡ names_lattice w l (p ∷ [])
  marked_so p m is = rw is (sym (or_false (nat_eq m.0 l)))

  pub unmarked : (p : Place) → w.mark p ≡ None → false ≡ names_lattice w l (p ∷ [])
  unmarked p is = rw is refl

  split : (p : Place) (ps : Words) → names_lattice w l (p ∷ ps) ≡ names_lattice w l (p ∷ []) || names_lattice w l ps
  split p ps = ap (λ b. b || names_lattice w l ps) (sym (or_false _))

  pub names_append : (xs ys : Words) → names_lattice w l (xs ++ ys) ≡ names_lattice w l xs || names_lattice w l ys
  names_append [] ys = refl
  names_append (x ∷ xs) ys = split x (xs ++ ys) ∙ ap (λ b. names_lattice w l (x ∷ []) || b) (names_append xs ys)
      ∙ sym (or_or (names_lattice w l (x ∷ [])) (names_lattice w l xs) (names_lattice w l ys))
      ∙ ap (λ b. b || names_lattice w l ys) (sym (split x xs))

  there : (p : Place) (xs : Words) (n : ℕ) → p ≡ slice_index_or xs n p → n < length xs → drop n xs ≡ p ∷ drop (n + 1) xs
  there p [] n is lt = absurd (omega arith)
  there p (y ∷ ys) zero is lt = ap (λ z. z ∷ ys) (sym is)
  there p (y ∷ ys) (suc n) is lt = let e : suc n + 1 ≡ suc (n + 1) = omega arith in rw e (there p ys n is (omega arith))

  here : (p : Place) (xs : Words) (n : ℕ) → p ≡ slice_index_or xs n p → n < length xs
      → names_lattice w l (drop n xs) ≡ names_lattice w l (p ∷ []) || names_lattice w l (drop (n + 1) xs)
  here p xs n is lt = ap (names_lattice w l) (there p xs n is lt) ∙ split p (drop (n + 1) xs)

  pub named_here : (p : Place) (xs : Words) (n : ℕ) → p ≡ slice_index_or xs n p → n < length xs
      → true ≡ names_lattice w l (p ∷ []) → names_lattice w l (drop n xs) ≡ names_lattice w l xs
      → true ≡ names_lattice w l xs
  named_here p xs n is lt holds so =
      ap (λ b. b || names_lattice w l (drop (n + 1) xs)) holds ∙ sym (here p xs n is lt) ∙ so

  pub not_here : (p : Place) (xs : Words) (n : ℕ) → p ≡ slice_index_or xs n p → n < length xs
      → false ≡ names_lattice w l (p ∷ []) → names_lattice w l (drop n xs) ≡ names_lattice w l xs
      → names_lattice w l (drop (n + 1) xs) ≡ names_lattice w l xs
  not_here p xs n is lt fails so =
      ap (λ b. b || names_lattice w l (drop (n + 1) xs)) fails ∙ sym (here p xs n is lt) ∙ so

  pub none_named : (xs : Words) (n : ℕ) → length xs ≤ n → names_lattice w l (drop n xs) ≡ names_lattice w l xs
      → false ≡ names_lattice w l xs
  none_named xs n le so = none xs n le ∙ so
    where
      none : (xs : Words) (n : ℕ) → length xs ≤ n → false ≡ names_lattice w l (drop n xs)
      none [] zero le = refl
      none [] (suc n) le = refl
      none (x ∷ xs) zero le = absurd (omega arith)
      none (x ∷ xs) (suc n) le = none xs n (omega arith)

module _ (w : World) (ps : Words) where
  next : (n : ℕ) (ls : List LatticeView) → n < length ls
      → uncut_from w ps n (drop n ls)
      ≡ (if names_lattice w n ps then 0 else 2 ^ n) + uncut_from w ps (n + 1) (drop (n + 1) ls)
  next n ls lt = from n n ls lt
    where
      from : (k n : ℕ) (ls : List LatticeView) → n < length ls
          → uncut_from w ps k (drop n ls)
          ≡ (if names_lattice w k ps then 0 else 2 ^ k) + uncut_from w ps (k + 1) (drop (n + 1) ls)
      from k n [] lt = absurd (omega arith)
      from k zero (x ∷ xs) lt =
          let e : suc k ≡ k + 1 = omega arith in
          ap (λ m. (if names_lattice w k ps then 0 else 2 ^ k) + uncut_from w ps m xs) e
      from k (suc n) (x ∷ xs) lt = let e : suc n + 1 ≡ suc (n + 1) = omega arith in rw e (from k n xs (omega arith))

  pub cut_here : (n r : ℕ) (ls : List LatticeView) → n < length ls → true ≡ names_lattice w n ps
      → r ≡ uncut_from w ps (n + 1) (drop (n + 1) ls) → r ≡ uncut_from w ps n (drop n ls)
  cut_here n r ls lt holds is =
      is ∙ (let e : uncut_from w ps (n + 1) (drop (n + 1) ls) ≡ 0 + uncut_from w ps (n + 1) (drop (n + 1) ls) =
      omega arith in e)
      ∙ ap (λ b. (if b then 0 else 2 ^ n) + uncut_from w ps (n + 1) (drop (n + 1) ls)) holds ∙ sym (next n ls lt)

  pub uncut_here : (n r q : ℕ) (ls : List LatticeView) → n < length ls → false ≡ names_lattice w n ps → q ≡ 2 ^ n
      → r ≡ uncut_from w ps (n + 1) (drop (n + 1) ls) → r + q ≡ uncut_from w ps n (drop n ls)
  uncut_here n r q ls lt fails power is =
      (let e : r + q ≡ q + r = omega arith in e) ∙ ap (λ k. k + r) power ∙ ap (λ k. 2 ^ n + k) is
      ∙ ap (λ b. (if b then 0 else 2 ^ n) + uncut_from w ps (n + 1) (drop (n + 1) ls)) fails ∙ sym (next n ls lt)

  pub none_uncut : (n : ℕ) (ls : List LatticeView) → length ls ≤ n → 0 ≡ uncut_from w ps n (drop n ls)
  none_uncut n ls le = from n n ls le
    where
      from : (k n : ℕ) (ls : List LatticeView) → length ls ≤ n → 0 ≡ uncut_from w ps k (drop n ls)
      from k zero [] le = refl
      from k (suc n) [] le = refl
      from k zero (x ∷ xs) le = absurd (omega arith)
      from k (suc n) (x ∷ xs) le = from k n xs (omega arith)

pub doubled : (n : ℕ) → 2 ^ (n + 1) ≡ 2 ^ n + 2 ^ n
doubled n = let e : n + 1 ≡ suc n = omega arith in ap (λ k. 2 ^ k) e ∙ pow-suc 2 n
    ∙ (let m : 2 ^ n * 2 ≡ 2 ^ n + 2 ^ n = omega arith in m)
