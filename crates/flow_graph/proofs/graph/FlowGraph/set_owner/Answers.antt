use Rattle.std.proofs.Common.{refl, arith}
use Rattle.flow_graph.proofs.Owning.{held_owners}
use Rattle.flow_graph.proofs.graph.FlowGraph.set_owner.Goals as goal

pub invariant_of-self : goal.invariant_of-self
invariant_of-self c =
    held_owners c.self.inside _ refl refl refl
    (omega (arith, c.set.ensures.most, c.number.ensures, c.requires, c.self.invariant.few_owners)) c.self.invariant
