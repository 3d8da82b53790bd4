use Rattle.std.proofs.Common.{refl, arith}
use Rattle.std.proofs.lemmas.Grind.{common_steps}
use Rattle.flow_graph.proofs.Keeping.{held_on}
use Rattle.flow_graph.proofs.graph.FlowGraph.add_site.Goals as goal

pub invariant_of-self : goal.invariant_of-self
invariant_of-self c =
    held_on c.self.inside _ refl (grind (arith, common_steps))
    (grind (arith, common_steps, c.self.invariant.few_sites)) refl refl c.self.invariant

pub invariant_of-self-2 : goal.invariant_of-self-2
invariant_of-self-2 c =
    held_on c.self.inside _ refl (grind (arith, common_steps)) (grind (arith, common_steps)) refl refl c.self.invariant
