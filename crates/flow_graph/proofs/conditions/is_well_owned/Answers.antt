use Rattle.std.proofs.Common.{◌≡◌, ℕ, false, true, refl, subst, arith, below_more}
use Rattle.flow_graph.specs.Conditions.{IsOwnedAt}
use Rattle.flow_graph.proofs.Checks.{all_owned, each_owned}
use Rattle.flow_graph.proofs.conditions.is_well_owned.Goals as goal

pub returns-then-not-is_owned_at : goal.returns-then-not-is_owned_at
returns-then-not-is_owned_at c = (
  λ (no : false ≡ true). absurd cc,
  λ owned. c.if-not-is_owned_at.ensures.1 (each_owned c.args.graph.now owned c.new.result),
)

pub loop-n-preserved : goal.loop-n-preserved
loop-n-preserved c = below_more _ _ c.loop-n.invariant
    (let At : ℕ → Type 0 = λ k. IsOwnedAt c.args.graph.now k in
    subst At c.new.ensures (c.if-not-is_owned_at.ensures.0 refl))

pub returns : goal.returns
returns c = (
  λ yes. all_owned c.args.graph.now
      (λ n within. c.loop-n.invariant n (omega (arith, within, c.loop-n-test.false, c.len-n-end.ensures.length))),
  λ owned. refl,
)
