use Rattle.std.proofs.Common.{◌≡◌, ◌≢◌, ℕ, false, ◌&&◌, eqb, inl, inr, refl, sym}
use Rattle.std.proofs.lemmas.Bool.Decides.{eqb_tells}
use Rattle.error_path.proofs.places.Places.insert.Goals as goal

-- two pairs that differ in one part compare as different
apart : (a b u v : ℕ) → (u ≡ a → v ≢ b) → (eqb a u && eqb b v) ≡ false
apart a b u v other = elim (eqb_tells a u) [
  | inr not ↦ rw not.0 refl
  | inl same ↦ elim (eqb_tells b v) [
    | inr not ↦ rw (same.0, not.0) refl
    | inl both ↦ absurd (other (sym same.1) (sym both.1))
  ]
]

pub returns-in-Ok-clause-others : goal.returns-in-Ok-clause-others
returns-in-Ok-clause-others c = λ u v other. c.in-Ok.ensures.updates.2 (u, v) (apart c.args.from c.args.to u v other)
