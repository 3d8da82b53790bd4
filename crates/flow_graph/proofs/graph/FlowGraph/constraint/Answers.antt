use Rattle.std.proofs.Common.{length, refl, subst, arith}
use Rattle.std.proofs.lemmas.Option.{slice_get_read}
use Rattle.flow_graph.specs.System.{System, IsWithin}
use Rattle.flow_graph.proofs.graph.FlowGraph.constraint.Goals as goal

-- the site of each constraint of a graph is among its sites
pub returns-clause-within : goal.returns-clause-within
returns-clause-within c =
    let Fits : System → Type 0 = λ sys. IsWithin (length sys.sites) c.index.result.now.link in
    subst Fits c.self.view_is (c.self.invariant.within c.number.result c.index.result.now.link (record {
      constraint = c.index.result.now;
      there = slice_get_read c.self.inside.constraints.items (length c.self.inside.constraints.items) c.number.result
          c.index.result.now refl (grind arith) c.index.ensures;
      link_is = refl;
    }))
