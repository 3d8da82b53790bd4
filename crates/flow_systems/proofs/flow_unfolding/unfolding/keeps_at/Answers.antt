use Rattle.std.proofs.Common.{refl}
use Rattle.flow_systems.proofs.flow_unfolding.unfolding.keeps_at.Goals as goal

-- the element of a bound of the lattice is one of its elements
pub leq-requires-clause-second : goal.leq-requires-clause-second
leq-requires-clause-second c =
    c.requires.named.bound c.args.at c.in-Some.limit.at c.in-Some.limit.elem
    (record {
      constraint = c.constraint-constraint.result;
      there = c.constraint-constraint.ensures.there;
      link_is = c.in-Some.ensures;
      carried = refl;
    })
