-- Where pairs stand among summaries.
use Rattle.std.proofs.Common.{◌≡◌, ℕ, zero, suc, ◌+◌, ◌<◌, ◌≤◌, ◌⊎◌, inl, inr, List, [], ◌∷◌, Some, length, slice_get, refl, sym, ◌∙◌, ap, subst, arith}
use Rattle.std.proofs.lemmas.Bool.Decides.{eqb_tells}
use Rattle.std.proofs.lemmas.Option.{slice_get_within}
use Rattle.match_summary.specs.declared.reason.Reason.{Reason}
use Rattle.match_summary.specs.declared.reason.Summary.{Summary}
use Rattle.match_summary.specs.Summary.{StandsOnce}
use Rattle.error_path.specs.Drafts.{rank}

-- a pair stands first, or later
rank_is : (row : Summary) (rows : List Summary) (u v : ℕ)
    → ((row.from ≡ u) × (row.to ≡ v) × (rank (row ∷ rows) u v ≡ 0))
    ⊎ ((row.from ≡ u → row.to ≡ v → ⊥) × (rank (row ∷ rows) u v ≡ suc (rank rows u v)))
rank_is row rows u v =
    let next : rank rows u v + 1 ≡ suc (rank rows u v) = omega arith in
    elim (eqb_tells row.from u) [
      | inr other ↦ inr (λ f t. other.1 f, rw other.0 next)
      | inl from ↦ elim (eqb_tells row.to v) [
        | inr other ↦ inr (λ f t. other.1 t, rw (from.0, other.0) next)
        | inl to ↦ inl (from.1, to.1, rw (from.0, to.0) refl)
      ]
    ]

-- a summary with these ends is theirs with its own reason
same_row : (row : Summary) (u v : ℕ) → row.from ≡ u → row.to ≡ v → row ≡ record { from = u; to = v; why = row.why }
same_row row u v f t =
    let first : row ≡ record { from = u; to = row.to; why = row.why } =
    ap (λ (x : ℕ). let r : Summary = record { from = x; to = row.to; why = row.why } in r) f in
    first ∙ ap (λ (y : ℕ). let r : Summary = record { from = u; to = y; why = row.why } in r) t

some_row : {x y : Summary} → Some x ≡ Some y → x ≡ y
some_row e = cc

-- a pair's first summary stands no later than any summary of the pair
pub rank_most : (rows : List Summary) (n u v : ℕ) (why : Reason)
    → slice_get rows n ≡ Some (record { from = u; to = v; why = why }) → rank rows u v ≤ n
rank_most [] n u v why is = absurd cc
rank_most (row ∷ rows) zero u v why is = elim (rank_is row rows u v) [
  | inl here ↦ omega (arith, here.2)
  | inr later ↦
      let same = some_row is in absurd (later.0 (ap (λ (r : Summary). r.from) same) (ap (λ (r : Summary). r.to) same))
]
rank_most (row ∷ rows) (suc n) u v why is = elim (rank_is row rows u v) [
  | inl here ↦ omega (arith, here.2)
  | inr later ↦ let deeper = rank_most rows n u v why is in omega (arith, deeper, later.1)
]

-- where its rank is below the number of summaries, a pair has a summary at its rank
rank_there : (rows : List Summary) (u v : ℕ) → rank rows u v < length rows
    → (why : Reason) × (slice_get rows (rank rows u v) ≡ Some (record { from = u; to = v; why = why }))
rank_there [] u v lt = absurd (omega (arith, lt))
rank_there (row ∷ rows) u v lt = elim (rank_is row rows u v) [
  | inl here ↦
      let At : ℕ → Type 0 = λ n. slice_get (row ∷ rows) n ≡ Some (record { from = u; to = v; why = row.why }) in
      (row.why, subst At (sym here.2) (ap (λ (r : Summary). Some r) (same_row row u v here.0 here.1)))
  | inr later ↦
      let deeper = rank_there rows u v (omega (arith, lt, later.1)) in
      let At : ℕ → Type 0 = λ n. slice_get (row ∷ rows) n ≡ Some (record { from = u; to = v; why = deeper.0 }) in
      (deeper.0, subst At (sym later.1) deeper.1)
]

-- a pair that stands once stands there alone
pub rank_once : (rows : List Summary) → StandsOnce rows → (n u v : ℕ) (why : Reason)
    → slice_get rows n ≡ Some (record { from = u; to = v; why = why }) → rank rows u v ≡ n
rank_once rows once n u v why is =
    let most = rank_most rows n u v why is in
    let within = slice_get_within rows n (record { from = u; to = v; why = why }) is in
    let there = rank_there rows u v (omega (arith, most, within)) in
    sym (once n (rank rows u v) u v why there.0 is there.1)
