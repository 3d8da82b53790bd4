-- Whether a list of summaries has a pair.
use Rattle.std.proofs.Common.{◌≡◌, ℕ, zero, suc, Bool, true, false, List, [], ◌∷◌, refl, ◌∙◌, ap, arith, ◌⊎◌, inl, inr, ◌↔◌}
use Rattle.std.proofs.lemmas.Bool.Decides.{eqb_tells}
use Rattle.match_summary.specs.declared.reason.Summary.{Summary}
use Rattle.match_summary.specs.Summary.{HasPair}

abbrev pub Decided : Type 0 → Type 0
Decided A = A ⊎ (A → ⊥)

pub test_of : (A : Type 0) → Decided A → (b : Bool) × ((b ≡ true) ↔ A)
test_of A (inl a) = (true, (λ e. a, λ a. refl))
test_of A (inr not) = (false, (λ e. absurd cc, λ a. absurd (not a)))

-- a pair of a longer list stands at its head or in the rest
pair_cases : (row : Summary) (rows : List Summary) (u v : ℕ) → HasPair (row ∷ rows) u v
    → ((row.from ≡ u) × (row.to ≡ v)) ⊎ HasPair rows u v
pair_cases row rows u v (why, (zero, within, is)) = inl (ap (λ (r : Summary). r.from) is, ap (λ (r : Summary). r.to) is)
pair_cases row rows u v (why, (suc k, within, is)) = inr (why, (k, omega (arith, within), is))

-- a summary from one variable to another is these variables with its own reason
same_row : (row : Summary) (u v : ℕ) → row.from ≡ u → row.to ≡ v → row ≡ record { from = u; to = v; why = row.why }
same_row row u v f t =
    let first : row ≡ record { from = u; to = row.to; why = row.why } =
    ap (λ (x : ℕ). let r : Summary = record { from = x; to = row.to; why = row.why } in r) f in
    first ∙ ap (λ (y : ℕ). let r : Summary = record { from = u; to = y; why = row.why } in r) t

-- a list of summaries has a pair or does not
pub pair_tells : (rows : List Summary) (u v : ℕ) → Decided (HasPair rows u v)
pair_tells [] u v = inr (λ pair. let within = pair.1.1 in absurd (omega (arith, within)))
pair_tells (row ∷ rows) u v = elim (pair_tells rows u v) [
  | inl pair ↦ let within = pair.1.1 in inl (pair.0, (suc pair.1.0, omega (arith, within), pair.1.2))
  | inr none ↦ elim (eqb_tells row.from u) [
    | inr other ↦ inr (λ pair. elim (pair_cases row rows u v pair) [ inl here ↦ other.1 here.0 | inr rest ↦ none rest ])
    | inl from ↦ elim (eqb_tells row.to v) [
      | inr other ↦
          inr (λ pair. elim (pair_cases row rows u v pair) [ inl here ↦ other.1 here.1 | inr rest ↦ none rest ])
      | inl to ↦
          let f : row.from ≡ u = from.1 in
          let t : row.to ≡ v = to.1 in
          inl (row.why, (0, omega arith, same_row row u v f t))
    ]
  ]
]
