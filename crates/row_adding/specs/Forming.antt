-- In which lattices what passes inside a skeleton.
use Rattle.std.specs.Prelude.{ℕ, Bool, ◌&&◌, List, ◌++◌, nat_eq}
use Rattle.qual_base.specs.declared.places.Span.{Span}
use Rattle.lattice_core.specs.declared.Flows.{Flows}
use Rattle.lattice_core.specs.Passing.{is_up, is_down}
use Rattle.flow_graph.specs.declared.constraint.Constraint.{Constraint}
use Rattle.name_rules.specs.Scopes.{Own}
use Rattle.qual_types.specs.Skel.{Skel, Skels, root}
use Rattle.row_rules.specs.Worlds.{World, Numbered, skeleton_among}
use Rattle.row_rules.specs.Forming as rules
use Rattle.row_adding.specs.declared.forming.Saying.{Saying}
use Rattle.row_adding.specs.declared.forming.Saying.TheVariants as sayings
use Rattle.row_adding.specs.declared.forming.Ways.{Ways}

-- what lattices say of pointers and structs, as the definitions have it
abbrev pub ways_of : Ways → rules.Ways
ways_of it = record { up = it.up; down = it.down; field = it.field }

-- whether a lattice says this: up from what a pointer points to, down into that, or into the members of a struct
abbrev pub says : Saying → Flows → Bool
says sayings.Up = λ flows. is_up flows.ptr
says sayings.Down = λ flows. is_down flows.ptr
says sayings.Field = λ flows. flows.field

-- nothing passes in any lattice
abbrev pub passes_none : rules.Ways → Bool
passes_none ways = nat_eq ways.up 0 && nat_eq ways.down 0 && nat_eq ways.field 0

-- what passes from a struct into one of its own members
abbrev pub into_one : rules.Ways → List Numbered → Span → ℕ → Own → List Constraint
into_one ways skeletons where_ n it = rules.into_member ways where_ n (skeleton_among skeletons it.at)

-- what passes inside of a pointer to a skeleton
abbrev pub pointer_formed : rules.Ways → World → Span → ℕ → Skel → List Constraint
pointer_formed ways w where_ v s =
    rules.pointing ways where_ v (root s) ++ rules.formed_in ways w.skeletons w.names.aggregates where_ s

-- what passes inside of the parameters and the result of a function
abbrev pub function_formed : rules.Ways → World → Span → Skels → Skel → List Constraint
function_formed ways w where_ ps r =
    rules.all_formed_in ways w.skeletons w.names.aggregates where_ ps
    ++ rules.formed_in ways w.skeletons w.names.aggregates where_ r
