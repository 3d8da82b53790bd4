use Rattle.std.proofs.Common.{ℕ, subst}
use Rattle.annotate.specs.Solutions.{IsSolution}
use Rattle.annotate.proofs.SolutionLemmas.{next_first}
use Rattle.annotate.proofs.solving.solve_all.Goals as goal

-- what is found of one lattice more comes behind what is found of those so far
pub loop-n-preserved : goal.loop-n-preserved
loop-n-preserved c =
    let Own : ℕ → Type 0 = λ l. IsSolution c.args.graph.now l c.in_ok-solve.field-0 in
    next_first c.args.graph.now c.loop-n.n c.loop-n.solutions.items c.push.new.self.items c.in_ok-solve.field-0
    c.in_ok-push.ensures.items (subst Own c.new.ensures c.in_ok-solve.ensures) c.loop-n.invariant
