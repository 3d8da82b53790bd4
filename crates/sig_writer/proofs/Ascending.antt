-- Ascending lists with the same numbers are one.
use Rattle.std.proofs.Common.{◌≡◌, ℕ, zero, suc, ◌<◌, ◌⊎◌, inl, inr, List, [], ◌∷◌, refl, arith}
use Rattle.std.specs.List.{Contains}
use Rattle.index_words.specs.Marks.{AreAscending}

pub cons_cases : (x : ℕ) (xs : List ℕ) (m : ℕ) → Contains (x ∷ xs) m → (x ≡ m) ⊎ Contains xs m
cons_cases x xs m (zero, lt, is) = inl is
cons_cases x xs m (suc i, lt, is) = inr (i, omega (arith, lt), is)

pub cons_here : (m : ℕ) (xs : List ℕ) → Contains (m ∷ xs) m
cons_here m xs = (0, omega arith, refl)

pub cons_later : (x : ℕ) (xs : List ℕ) (m : ℕ) → Contains xs m → Contains (x ∷ xs) m
cons_later x xs m has = (suc has.0, (let lt = has.1 in omega (arith, lt)), has.2)

pub none_has : (m : ℕ) → Contains [] m → ⊥
none_has m has = let lt = has.1 in omega (arith, lt)

pub ascending_cons : (x : ℕ) (xs : List ℕ) → AreAscending xs → ((m : ℕ) → Contains xs m → x < m) → AreAscending (x ∷ xs)
ascending_cons x [] are less = tt
ascending_cons x (y ∷ ys) are less = (less y (cons_here y ys), are)

ascending_rest : (x : ℕ) (xs : List ℕ) → AreAscending (x ∷ xs) → AreAscending xs
ascending_rest x [] are = tt
ascending_rest x (y ∷ ys) are = are.1

-- a number behind the first of an ascending list is above the first
ascending_less : (x : ℕ) (xs : List ℕ) (m : ℕ) → AreAscending (x ∷ xs) → Contains xs m → x < m
ascending_less x [] m are has = absurd (none_has m has)
ascending_less x (y ∷ ys) m are has = elim (cons_cases y ys m has) [
  | inl same ↦ let less = are.0 in omega (arith, less, same)
  | inr later ↦ let less = are.0 in let more = ascending_less y ys m are.1 later in omega (arith, less, more)
]

-- two ascending lists, each of which has the numbers of the other, are one list
pub same_ascending : (xs ys : List ℕ) → AreAscending xs → AreAscending ys → ((m : ℕ) → Contains xs m → Contains ys m) →
    ((m : ℕ) → Contains ys m → Contains xs m) → xs ≡ ys
same_ascending [] [] p q there back = refl
same_ascending [] (y ∷ ys) p q there back = absurd (none_has y (back y (cons_here y ys)))
same_ascending (x ∷ xs) [] p q there back = absurd (none_has x (there x (cons_here x xs)))
same_ascending (x ∷ xs) (y ∷ ys) p q there back =
    let head : x ≡ y = elim (cons_cases y ys x (there x (cons_here x xs))) [
      | inl same ↦ omega (arith, same)
      | inr later ↦
          let more = ascending_less y ys x q later in
          elim (cons_cases x xs y (back y (cons_here y ys))) [
            | inl same ↦ same
            | inr behind ↦ let less = ascending_less x xs y p behind in absurd (omega (arith, more, less))
          ]
    ] in
    let rest : xs ≡ ys = same_ascending xs ys (ascending_rest x xs p) (ascending_rest y ys q)
    (λ m has. elim (cons_cases y ys m (there m (cons_later x xs m has))) [
      | inl same ↦ let less = ascending_less x xs m p has in absurd (omega (arith, less, head, same))
      | inr later ↦ later
    ])
    (λ m has. elim (cons_cases x xs m (back m (cons_later y ys m has))) [
      | inl same ↦ let less = ascending_less y ys m q has in absurd (omega (arith, less, head, same))
      | inr later ↦ later
    ]) in
    cc
