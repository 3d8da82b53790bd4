-- The depth of a path: how many calls it takes to have open at once, in a copy of its end.
use Rattle.std.proofs.Common.{ℕ, ◌+◌, max, inl, inr}
use Rattle.flow_graph.specs.System.{System}
use Rattle.flow_graph.specs.Paths.{Matches, stay, longer, Part, flow, group, Returning, start, flows, returns, grouped, anew, Calling, calls, calls_on, flows_on, grouped_on, Lead}

-- Inside one function it is the nesting of its groups: parts one behind the other take the greatest of their depths.
abbrev mutual
  pub depth_inside : (sys : System) (lattice f u v : ℕ) → Matches sys lattice f u v → ℕ
  depth_inside sys lattice f u v (stay _ _ own) = 0
  depth_inside sys lattice f u v (longer _ _ x _ p part) =
      max (depth_inside sys lattice f u x p) (depth_of_part sys lattice f x v part)

  pub depth_of_part : (sys : System) (lattice f x v : ℕ) → Part sys lattice f x v → ℕ
  depth_of_part sys lattice f x v (flow _ _ _ n st own) = 0
  depth_of_part sys lattice f x v (group _ _ a b _ s g n m st q st2 own) = depth_inside sys lattice g a b q + 1

-- the calls of a path that are open at its end, those that it opened before a variable of nobody among them
abbrev pub open_calls : (sys : System) (lattice e v : ℕ) → Calling sys lattice e v → ℕ
open_calls sys lattice e v (calls u _ s n p st) = 1
open_calls sys lattice e v (calls_on u _ s n c st) = open_calls sys lattice e u c + 1
open_calls sys lattice e v (flows_on u _ n c st) = open_calls sys lattice e u c
open_calls sys lattice e v (grouped_on u a b _ s g n m c st q st2) = open_calls sys lattice e u c

-- Each call that it leaves or opens takes one more, and a group stands within the calls that are open.
abbrev mutual
  pub depth_returning : (sys : System) (lattice e v : ℕ) → Returning sys lattice e v → ℕ
  depth_returning sys lattice e v (start _ n st) = 0
  depth_returning sys lattice e v (flows u _ n p st) = depth_returning sys lattice e u p
  depth_returning sys lattice e v (returns u _ s n p st) = depth_returning sys lattice e u p + 1
  depth_returning sys lattice e v (grouped u a b _ s g n m p st q st2) =
      max (depth_returning sys lattice e u p) (depth_inside sys lattice g a b q + 1)
  depth_returning sys lattice e v (anew _ c own) = depth_calling sys lattice e v c

  pub depth_calling : (sys : System) (lattice e v : ℕ) → Calling sys lattice e v → ℕ
  depth_calling sys lattice e v (calls u _ s n p st) = depth_returning sys lattice e u p + 1
  depth_calling sys lattice e v (calls_on u _ s n c st) = depth_calling sys lattice e u c + 1
  depth_calling sys lattice e v (flows_on u _ n c st) = depth_calling sys lattice e u c
  depth_calling sys lattice e v (grouped_on u a b _ s g n m c st q st2) =
      max (depth_calling sys lattice e u c) (open_calls sys lattice e u c + (depth_inside sys lattice g a b q + 1))

abbrev pub depth_of : (sys : System) (lattice e v : ℕ) → Lead sys lattice e v → ℕ
depth_of sys lattice e v (inl p) = depth_returning sys lattice e v p
depth_of sys lattice e v (inr c) = depth_calling sys lattice e v c
