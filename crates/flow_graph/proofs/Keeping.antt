-- What is true of a graph's fields stays true where they hold the same, or one more site.
use Rattle.std.proofs.Common.{◌≡◌, ◌<◌, ◌≤◌, ◌^◌, length, sym, ◌∙◌, ap, arith}
use Rattle.flow_graph.specs.declared.graph.FlowGraph.TheInside.{Inside}
use Rattle.flow_graph.specs.System.{highest}
use Rattle.flow_graph.specs.Held.{IsHeld, system_of}
use Rattle.flow_graph.proofs.Bounds.{all_within-sites}

-- a graph with the same fields but for more sites, below 2^32 of them, holds as before
pub held_on : (one other : Inside) → one.constraints.items ≡ other.constraints.items
    → length one.sites.items ≤ length other.sites.items →
    length other.sites.items < 2 ^ 32 → one.owners ≡ other.owners → one.highest ≡ other.highest → IsHeld one
    → IsHeld other
held_on one other same more few owners high held =
    let count : length one.constraints.items ≡ length other.constraints.items = ap length same in
    let owned : length one.owners ≡ length other.owners = ap length owners in
    record {
      most = omega (arith, count, held.most);
      few_sites = few;
      few_owners = omega (arith, owned, held.few_owners);
      highest_is = sym high ∙ held.highest_is ∙ ap highest same;
      low = omega (arith, high, held.low);
      within = all_within-sites (system_of one) (system_of other) same more held.within;
    }
