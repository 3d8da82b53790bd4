use Rattle.std.proofs.Common.{◌≡◌, ℕ, false, true, refl, sym, ◌∙◌, ap}
use Rattle.closure_check.specs.Parts.{is_among}
use Rattle.closure_check.specs.Checking.{AsksPair}
use Rattle.closure_check.proofs.Sorted.{among_item, item_among}
use Rattle.closure_check.proofs.Turns.{turn_more, turns_all}
use Rattle.closure_check.proofs.checks.all_pairs.Goals as goal

-- one pair that is not met denies that all are
pub returns-then-not-is_pair_met : goal.returns-then-not-is_pair_met
returns-then-not-is_pair_met c = (
  λ (no : false ≡ true). absurd cc,
  λ all.
      let among = item_among c.as_slice-pair-items.result.now c.loop-pair.pair-index c.pair-item.result
      c.loop-pair-test.true c.pair-item.is in
      sym c.if-not-is_pair_met.true ∙ c.is_pair_met.ensures.1 (all c.pair-item.result.0 c.pair-item.result.1 (ap
      (λ ps. is_among ps c.pair-item.result.0 c.pair-item.result.1) (sym c.as_slice-pair-items.ensures.value) ∙ among)),
)

-- a pair that is met joins those before it
pub loop-pair-preserved : goal.loop-pair-preserved
loop-pair-preserved c =
    turn_more (λ (p : ℕ × ℕ). AsksPair c.args.given.now c.args.rule p.0 p.1) c.as_slice-pair-items.result.now
    c.loop-pair.pair-index c.pair-item.result c.loop-pair-test.true c.pair-item.is c.loop-pair.invariant
    (c.is_pair_met.ensures.0 c.if-not-is_pair_met.false)

-- when no pair is left, each pair of the certificate is met
pub returns : goal.returns
returns c = (
  λ yes z u pair.
      turns_all (λ (p : ℕ × ℕ). AsksPair c.args.given.now c.args.rule p.0 p.1) c.as_slice-pair-items.result.now
      c.loop-pair.pair-index c.loop-pair-test.false c.loop-pair.invariant (z, u)
      (among_item c.as_slice-pair-items.result.now z u
      (ap (λ ps. is_among ps z u) c.as_slice-pair-items.ensures.value ∙ pair)),
  λ all. refl,
)
