use Rattle.std.proofs.Common.{◌≡◌, ℕ, ◌<◌, Some, false, true, refl, sym, ◌∙◌, ap, arith}
use Rattle.std.proofs.lemmas.Option.{get_or_from_slice_get, slice_get-get_or, slice_get_within}
use Rattle.closure_check.proofs.Turns.{turn_more}
use Rattle.closure_check.proofs.part.are_below.Goals as goal

-- one pair with a variable that is not below the number denies that all are
pub returns-then-not-is_of : goal.returns-then-not-is_of
returns-then-not-is_of c = (
  λ (no : false ≡ true). absurd cc,
  λ all.
      let there = slice_get-get_or c.args.pairs.now c.loop-pair.pair-index c.pair-item.result c.loop-pair-test.true
      ∙ ap Some (sym c.pair-item.is) in
      sym c.if-not-is_of.true ∙ c.is_of.ensures.1 (all c.loop-pair.pair-index c.pair-item.result there),
)

pub loop-pair-preserved : goal.loop-pair-preserved
loop-pair-preserved c =
    turn_more (λ (p : ℕ × ℕ). (p.0 < c.args.vars) × (p.1 < c.args.vars)) c.args.pairs.now c.loop-pair.pair-index
    c.pair-item.result c.loop-pair-test.true c.pair-item.is
    c.loop-pair.invariant (c.is_of.ensures.0 c.if-not-is_of.false)

-- when no pair is left, the variables of each are below the number
pub returns : goal.returns
returns c = (
  λ met k p there.
      let inside = slice_get_within c.args.pairs.now k p there in
      c.loop-pair.invariant k p (omega (arith, inside, c.loop-pair-test.false))
      (get_or_from_slice_get c.args.pairs.now k p p there),
  λ all. refl,
)
