use Rattle.std.proofs.Common.{◌≡◌, ◌<◌, ℕ, length, false, true, inl, inr, sym, ◌∙◌, ap, arith}
use Rattle.std.proofs.lemmas.Bool.{cases_lt}
use Rattle.std.proofs.lemmas.List.{get_or_default}
use Rattle.qual_base.proofs.Tests.{eq_is}
use Rattle.closure_check.specs.Parts.{has}
use Rattle.closure_check.specs.Checking.{IsSubset}
use Rattle.closure_check.proofs.BitSets.{eq_to, none_past}
use Rattle.closure_check.proofs.Turns.{turn_more}
use Rattle.closure_check.proofs.part.are_sets.Goals as goal

-- one set with more than the elements of the lattice denies that all are sets of it
pub returns-then-not-is_subset : goal.returns-then-not-is_subset
returns-then-not-is_subset c = (
  λ (no : false ≡ true). absurd cc,
  λ sets.
      let same = get_or_default c.args.sets.now c.loop-set.set-index 0 c.set-item.result c.loop-set-test.true
      ∙ sym c.set-item.is in
      sym c.if-not-is_subset.true ∙ c.is_subset.ensures.1
      (λ e h. (c.elements-all.ensures e).1 (sets.elements c.loop-set.set-index e (ap (λ (n : ℕ). has n e) same ∙ h))),
)

pub loop-set-preserved : goal.loop-set-preserved
loop-set-preserved c =
    turn_more (λ (n : ℕ). IsSubset n c.elements-all.result) c.args.sets.now c.loop-set.set-index c.set-item.result
    c.loop-set-test.true c.set-item.is
    c.loop-set.invariant (c.is_subset.ensures.0 c.if-not-is_subset.false)

-- when no set is left, they are sets of the lattice, and so many just if their count is equal
pub returns : goal.returns
returns c = (
  λ met. record {
    size_is = eq_is _ _ met;
    elements = λ v e h. elim (cases_lt v c.loop-set.set-index) [
      | inl low ↦
          let within : v < length c.args.sets.now = omega (arith, low, c.loop-set.auto.set-index-end) in
          (c.elements-all.ensures e).0 (c.loop-set.invariant v _ low (get_or_default c.args.sets.now v _ 0 within) e h)
      | inr high ↦
          let wrong : true ≡ false =
          sym h ∙ none_past c.args.sets.now v e (omega (arith, high, c.loop-set-test.false)) in
          absurd cc
    ];
  },
  λ sets. eq_to _ _ sets.size_is,
)
