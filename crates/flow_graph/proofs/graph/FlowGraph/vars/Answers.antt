use Rattle.std.proofs.Common.{◌≡◌, ℕ, subst, arith}
use Rattle.std.proofs.lemmas.Grind.{common_steps}
use Rattle.flow_graph.specs.System.{AllBelow, vars_of}
use Rattle.flow_graph.proofs.Bounds.{all_below}
use Rattle.flow_graph.proofs.graph.FlowGraph.vars.Goals as goal

-- the number of variables is above each variable of a constraint
pub returns-clause-above : goal.returns-clause-above
returns-clause-above c =
    let is : vars_of c.args.self.now ≡ c.max.result =
    rw (← c.self.view_is, ← c.self.invariant.highest_is) (grind (arith, common_steps)) in
    let Above : ℕ → Type 0 = λ k. AllBelow c.args.self.now k in
    subst Above is (all_below c.args.self.now)
