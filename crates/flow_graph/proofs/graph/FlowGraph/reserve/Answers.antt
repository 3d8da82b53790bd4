use Rattle.std.proofs.Common.{refl, sym, arith}
use Rattle.flow_graph.proofs.Keeping.{held_on}
use Rattle.flow_graph.proofs.graph.FlowGraph.reserve.Goals as goal

pub invariant_of-self : goal.invariant_of-self
invariant_of-self c =
    held_on c.self.inside _ (sym c.reserve.ensures.items)
    (omega arith) c.self.invariant.few_sites refl refl c.self.invariant
