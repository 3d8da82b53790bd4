-- What passes inside a skeleton, in the lattices that say so: between a pointer and what it points to, and from a
-- struct into its members. This is the project's own; of Foster et al. 2006 is only that such flows are constraints
-- like any other.
use Rattle.std.specs.Prelude.{ℕ, suc, ◌+◌, ◌^◌, nat_eq, Bool, List, [], ◌∷◌, ◌++◌, if◌then◌else◌}
use Rattle.qual_base.specs.declared.places.Span.{Span}
use Rattle.lattice_core.specs.declared.Flows.{Flows}
use Rattle.lattice_core.specs.Passing.{is_up, is_down}
use Rattle.lattice_core.specs.View.{LatticeView}
use Rattle.flow_graph.specs.declared.constraint.Link.{Link}
use Rattle.flow_graph.specs.declared.constraint.Link.TheVariants.{Le}
use Rattle.flow_graph.specs.declared.constraint.Constraint.{Constraint}
use Rattle.qual_types.specs.declared.look.Kind.{Kind}
use Rattle.qual_types.specs.declared.look.Kind.TheVariants as kinds
use Rattle.qual_types.specs.Skel.{Skel, flat, ref, fun, Skels, no_skels, more_skels, root}
use Rattle.name_rules.specs.Scopes.{Aggregate, Own}
use Rattle.name_rules.specs.Values.{own_of}
use Rattle.row_rules.specs.Vals.{contents, is_nothing}
use Rattle.row_rules.specs.Worlds.{World, Numbered, constraint, skeleton_among}

-- the lattices that say something of pointers and structs, a bit for each
abbrev pub lattices_from : (Flows → Bool) → ℕ → List LatticeView → ℕ
lattices_from says n [] = 0
lattices_from says n (view ∷ views) = (if says view.flows then 2 ^ n else 0) + lattices_from says (suc n) views

-- In which lattices what a pointer points to passes into the pointer, the pointer into what it points to, and a struct
-- into its members.
pub record Ways : Type 0 where
  pub up : ℕ
  pub down : ℕ
  pub field : ℕ

-- what some lattices say of pointers and structs
abbrev pub ways_in : List LatticeView → Ways
ways_in views = record {
  up = lattices_from (λ flows. is_up flows.ptr) 0 views;
  down = lattices_from (λ flows. is_down flows.ptr) 0 views;
  field = lattices_from (λ flows. flows.field) 0 views;
}

-- a constraint in these lattices; nothing where there are none
abbrev pub in_some : ℕ → Span → Link → List Constraint
in_some lattices where_ link = if nat_eq lattices 0 then [] else constraint lattices where_ link ∷ []

-- what passes between a pointer and what it points to
abbrev pub pointing : Ways → Span → ℕ → ℕ → List Constraint
pointing ways where_ n m = in_some ways.up where_ (Le m n) ++ in_some ways.down where_ (Le n m)

-- what passes from a struct into a member: into what is in the member, as its own declaration has it
abbrev pub into_member : Ways → Span → ℕ → Skel → List Constraint
into_member ways where_ n s = if is_nothing s then [] else in_some ways.field where_ (Le n (root (contents s)))

-- what passes from a struct into its own members, in their order
abbrev pub into_members : Ways → List Numbered → Span → ℕ → List Own → List Constraint
into_members ways skeletons where_ n [] = []
into_members ways skeletons where_ n (it ∷ own) =
    into_member ways where_ n (skeleton_among skeletons it.at) ++ into_members ways skeletons where_ n own

-- what passes from a struct into its members: without a body it has none, one whose body comes later has them
abbrev pub into_fields : Ways → List Numbered → List Aggregate → Span → ℕ → Kind → List Constraint
into_fields ways skeletons all where_ n (kinds.Struct of) = into_members ways skeletons where_ n (own_of all of)
into_fields ways skeletons all where_ n kinds.Base = []
into_fields ways skeletons all where_ n kinds.Void = []
into_fields ways skeletons all where_ n kinds.Nothing = []

-- By its constructors in pre-order. The skeleton of a member is that of its own declaration, whose row goes into it, so
-- nothing goes round where a struct points to itself.
abbrev mutual
  -- the constraints that a skeleton has by itself: how qualifiers pass through its pointers and members
  pub formed_in : Ways → List Numbered → List Aggregate → Span → Skel → List Constraint
  formed_in ways skeletons all where_ (flat v k) = into_fields ways skeletons all where_ v k
  formed_in ways skeletons all where_ (ref v s) =
      pointing ways where_ v (root s) ++ formed_in ways skeletons all where_ s
  formed_in ways skeletons all where_ (fun v ps r e) =
      all_formed_in ways skeletons all where_ ps ++ formed_in ways skeletons all where_ r

  -- those of parameters
  pub all_formed_in : Ways → List Numbered → List Aggregate → Span → Skels → List Constraint
  all_formed_in ways skeletons all where_ no_skels = []
  all_formed_in ways skeletons all where_ (more_skels s ss) =
      formed_in ways skeletons all where_ s ++ all_formed_in ways skeletons all where_ ss

-- what passes inside of a skeleton; with this each row begins that makes one
abbrev pub formed : World → Span → Skel → List Constraint
formed w where_ s = formed_in (ways_in w.lattices) w.skeletons w.names.aggregates where_ s
