use Rattle.std.proofs.Common.{◌≡◌, ℕ, ◌∷◌, arith, subst, sym, ◌∙◌, inl, inr}
use Rattle.std.specs.List.{Contains}
use Rattle.std.proofs.lemmas.Bool.{cases_lt}
use Rattle.flow_systems.proofs.flow_unfolding.strings.longer.Goals as goal

-- adding one more site in front of each string keeps those of the sites before it
pub loop-s-preserved : goal.loop-s-preserved
loop-s-preserved c = record {
  empty = c.add_longer.ensures.kept _ c.loop-s.invariant.empty;
  added = λ s w less there. elim (cases_lt s c.loop-s.s) [
    | inl before ↦ c.add_longer.ensures.kept _ (c.loop-s.invariant.added s w before there)
    | inr late ↦
        let same : s ≡ c.loop-s.s = omega (arith, less, late) in
        let Has : ℕ → Type 0 = λ k. Contains c.add_longer.new.all.items (k ∷ w) in
        subst Has (c.new-in-loop-s.ensures ∙ sym same) (c.in_ok-add_longer.ensures.added w there)
  ];
}
