use Rattle.std.proofs.Common.{length, refl, sym, subst, arith}
use Rattle.std.proofs.lemmas.Grind.{common_steps}
use Rattle.flow_graph.specs.System.{System, IsWithin}
use Rattle.flow_graph.specs.Held.{system_of}
use Rattle.flow_graph.proofs.Highest.{highest-append}
use Rattle.flow_graph.proofs.Bounds.{all_within-push}
use Rattle.flow_graph.proofs.Keeping.{held_on}
use Rattle.flow_graph.proofs.graph.FlowGraph.add.Goals as goal

-- a graph with one more constraint within its sites holds
pub invariant_of-self : goal.invariant_of-self
invariant_of-self c =
    let Fits : System → Type 0 = λ sys. IsWithin (length sys.sites) c.args.constraint.link in
    record {
      most = grind (arith, common_steps);
      few_sites = c.self.invariant.few_sites;
      few_owners = c.self.invariant.few_owners;
      highest_is = rw (c.in-Ok.ensures.items, highest-append) (grind (arith, common_steps));
      low = grind (arith, common_steps);
      within = all_within-push (system_of c.self.inside) _ c.args.constraint c.in-Ok.ensures.items refl
          (subst Fits (sym c.self.view_is) c.requires) c.self.invariant.within;
    }

pub invariant_of-self-in-Err : goal.invariant_of-self-in-Err
invariant_of-self-in-Err c =
    held_on c.self.inside _ (sym c.in-Err.ensures.items)
    (omega arith) c.self.invariant.few_sites refl refl c.self.invariant
