use Rattle.std.proofs.Common.{subst}
use Rattle.flow_graph.specs.System.{AllWithin}
use Rattle.flow_graph.proofs.graph.FlowGraph.law.Goals as goal

pub returns-clause-within : goal.returns-clause-within
returns-clause-within c = subst AllWithin c.self.view_is c.self.invariant.within
