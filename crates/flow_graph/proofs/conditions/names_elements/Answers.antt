use Rattle.std.proofs.Common.{◌≡◌, ℕ, false, true, refl, subst, arith, below_more}
use Rattle.flow_graph.specs.Conditions.{IsNamedAt}
use Rattle.flow_graph.proofs.Checks.{all_named, each_named}
use Rattle.flow_graph.proofs.conditions.names_elements.Goals as goal

-- a constraint that names no element denies that all do
pub returns-then-not-is_named_at : goal.returns-then-not-is_named_at
returns-then-not-is_named_at c = (
  λ (no : false ≡ true). absurd cc,
  λ named. c.if-not-is_named_at.ensures.1
      (each_named c.args.graph.now c.args.lattice_no c.args.lattice.now.order named c.new.result),
)

pub loop-n-preserved : goal.loop-n-preserved
loop-n-preserved c = below_more _ _ c.loop-n.invariant
    (let At : ℕ → Type 0 = λ k. IsNamedAt c.args.graph.now c.args.lattice_no c.args.lattice.now.order k in
    subst At c.new.ensures (c.if-not-is_named_at.ensures.0 refl))

-- when no constraint is left, each names an element
pub returns : goal.returns
returns c = (
  λ yes. all_named c.args.graph.now c.args.lattice_no c.args.lattice.now.order
      (λ n within. c.loop-n.invariant n (omega (arith, within, c.loop-n-test.false, c.len-n-end.ensures.length))),
  λ named. refl,
)
