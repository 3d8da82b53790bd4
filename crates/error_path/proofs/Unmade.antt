-- How many summaries have no sub-path.
use Rattle.std.proofs.Common.{◌≡◌, ◌≢◌, ℕ, zero, suc, ◌+◌, ◌<◌, ◌≤◌, List, [], ◌∷◌, Option, Some, None, inl, inr, slice_get, refl, ◌∙◌, ap, arith}
use Rattle.std.proofs.lemmas.Bool.{cases_eq}
use Rattle.std.proofs.lemmas.Option.{slice_get-get_or}
use Rattle.match_summary.specs.declared.reason.Summary.{Summary}
use Rattle.match_summary.specs.Summary.{HasPair}

abbrev free : Option ℕ → ℕ
free None = 1
free (Some n) = 0

abbrev pub unmade : List Summary → (ℕ → ℕ → Option ℕ) → ℕ
unmade [] place = 0
unmade (row ∷ rows) place = free (place row.from row.to) + unmade rows place

some_row : {x y : Summary} → Some x ≡ Some y → x ≡ y
some_row e = cc

module _ (old new : ℕ → ℕ → Option ℕ) (u v n : ℕ) (before : old u v ≡ None) (here : new u v ≡ Some n)
    (others : (x y : ℕ) → (x ≡ u → y ≢ v) → new x y ≡ old x y) where
  gone : (x y : ℕ) → x ≡ u → y ≡ v → free (new x y) ≡ 0
  gone x y f t = ap free (ap (λ a. new a y) f ∙ ap (λ b. new u b) t ∙ here)

  was : (x y : ℕ) → x ≡ u → y ≡ v → free (old x y) ≡ 1
  was x y f t = ap free (ap (λ a. old a y) f ∙ ap (λ b. old u b) t ∙ before)

  free_most : (x y : ℕ) → free (new x y) ≤ free (old x y)
  free_most x y = elim (cases_eq x u) [
    | inr not ↦
        let same : free (new x y) ≡ free (old x y) = ap free (others x y (λ e. absurd (not e))) in
        omega (arith, same)
    | inl f ↦ elim (cases_eq y v) [
      | inr not ↦ let same : free (new x y) ≡ free (old x y) = ap free (others x y (λ e. not)) in omega (arith, same)
      | inl t ↦ let none = gone x y f t in omega (arith, none)
    ]
  ]

  unmade_most : (rows : List Summary) → unmade rows new ≤ unmade rows old
  unmade_most [] = omega arith
  unmade_most (row ∷ rows) =
      let rest = unmade_most rows in
      let one = free_most row.from row.to in
      omega (arith, rest, one)

  unmade_at : (rows : List Summary) (k : ℕ) (row : Summary) → slice_get rows k ≡ Some row → row.from ≡ u → row.to ≡ v
      → unmade rows new < unmade rows old
  unmade_at [] k row is f t = absurd cc
  unmade_at (x ∷ rows) zero row is f t =
      let same : x ≡ row = some_row is in
      let from : x.from ≡ u = ap (λ (r : Summary). r.from) same ∙ f in
      let to : x.to ≡ v = ap (λ (r : Summary). r.to) same ∙ t in
      let none = gone x.from x.to from to in
      let one = was x.from x.to from to in
      let rest = unmade_most rows in omega (arith, none, one, rest)
  unmade_at (x ∷ rows) (suc k) row is f t =
      let rest = unmade_at rows k row is f t in
      let one = free_most x.from x.to in omega (arith, rest, one)

  -- one less where the sub-path of a pair was made
  pub unmade_less : (rows : List Summary) → HasPair rows u v → unmade rows new < unmade rows old
  unmade_less rows pair =
      let row : Summary = record { from = u; to = v; why = pair.0 } in
      let at : slice_get rows pair.1.0 ≡ Some row =
      slice_get-get_or rows pair.1.0 row pair.1.1 ∙ ap (λ (x : Summary). Some x) pair.1.2 in
      unmade_at rows pair.1.0 row at refl refl
