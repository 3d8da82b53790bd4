-- The bounds that a variable leads to by a flow, a call or a group more.
use Rattle.std.proofs.Common.{ℕ}
use Rattle.flow_graph.specs.declared.constraint.Link.TheVariants.{Le, Bound, Enter, Leave}
use Rattle.flow_graph.specs.System.{System, Stands}
use Rattle.flow_graph.specs.Paths.{Matches}
use Rattle.split_laws.specs.Splits.{Down, here, along, into, round}
use Rattle.bounds_below.specs.Below.{Reaches}

module _ (sys : System) (lattice : ℕ) where
  down_then : (u v x : ℕ) → Down sys lattice u v → Down sys lattice v x → Down sys lattice u x
  down_then u v x first (here _) = first
  down_then u v x first (along _ y _ n d st) = along u y x n (down_then u v y first d) st
  down_then u v x first (into _ y _ s n d st) = into u y x s n (down_then u v y first d) st
  down_then u v x first (round _ y a b _ s g n m d st p st2) =
      round u y a b x s g n m (down_then u v y first d) st p st2

  reach_from : (u v b : ℕ) → Down sys lattice u v → Reaches sys lattice v b → Reaches sys lattice u b
  reach_from u v b first r = (r.0, (r.1.0, down_then u v r.1.0 first r.1.1, r.1.2))

  pub reach_here : (n v b : ℕ) → Stands sys lattice n (Bound v lattice b) → Reaches sys lattice v b
  reach_here n v b st = (n, (v, here v, st))

  pub reach_flow : (n u v b : ℕ) → Stands sys lattice n (Le u v) → Reaches sys lattice v b → Reaches sys lattice u b
  reach_flow n u v b st = reach_from u v b (along u u v n (here u) st)

  pub reach_call : (n s u v b : ℕ) → Stands sys lattice n (Enter s u v) → Reaches sys lattice v b
      → Reaches sys lattice u b
  reach_call n s u v b st = reach_from u v b (into u u v s n (here u) st)

  pub reach_group : (n m s g u a x v b : ℕ) → Stands sys lattice n (Enter s u a) → Matches sys lattice g a x
      → Stands sys lattice m (Leave s x v) → Reaches sys lattice v b →
      Reaches sys lattice u b
  reach_group n m s g u a x v b st p st2 = reach_from u v b (round u u a x v s g n m (here u) st p st2)
