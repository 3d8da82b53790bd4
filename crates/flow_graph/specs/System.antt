-- A system of constraints.
use Rattle.std.specs.Prelude.{◌≡◌, ℕ, ◌+◌, ◌<◌, ◌≤◌, ◌≢◌, ◌^◌, max, List, [], ◌∷◌, length, slice_get, Some, unwrap_or}
use Rattle.std.specs.Int.{bit_at}
use Rattle.qual_base.specs.declared.places.Owner.{Owner}
use Rattle.qual_base.specs.declared.places.Owner.TheVariants.{Nobody, Function}
use Rattle.flow_graph.specs.declared.constraint.Link.{Link}
use Rattle.flow_graph.specs.declared.constraint.Link.TheVariants.{Le, Const, Bound, Enter, Leave}
use Rattle.flow_graph.specs.declared.constraint.Constraint.{Constraint}
use Rattle.flow_graph.specs.declared.constraint.Site.{Site}

-- constraints by their numbers, sites by theirs, and owners by variables
pub record System : Type 0 where
  pub constraints : List Constraint
  pub sites : List Site
  pub owners : List Owner

-- a variable past the end of the list belongs to nobody
abbrev pub owner_of : System → ℕ → Owner
owner_of sys v = unwrap_or (slice_get sys.owners v) Nobody

-- A constant or a bound is in the lattice that it names, another constraint in the lattices of its mask.
abbrev pub IsInLattice : ℕ → Link → ℕ → Type 0
IsInLattice lattice (Le u v) mask = bit_at mask lattice ≡ 1
IsInLattice lattice (Const named e v) mask = named ≡ lattice
IsInLattice lattice (Bound v named e) mask = named ≡ lattice
IsInLattice lattice (Enter s u v) mask = bit_at mask lattice ≡ 1
IsInLattice lattice (Leave s u v) mask = bit_at mask lattice ≡ 1

-- a link is no call
abbrev pub IsNoEnter : Link → Type 0
IsNoEnter link = (s u v : ℕ) → link ≡ Enter s u v → ⊥

-- a link is no return
abbrev pub IsNoLeave : Link → Type 0
IsNoLeave link = (s u v : ℕ) → link ≡ Leave s u v → ⊥

-- a link is no bound of this lattice
abbrev pub IsNoBound : Link → ℕ → Type 0
IsNoBound link lattice = (v e : ℕ) → link ≡ Bound v lattice e → ⊥

-- constraint number n is this link, in some lattices
pub record Has (sys : System) (n : ℕ) (link : Link) : Type 0 where
  pub constraint : Constraint
  pub there : slice_get sys.constraints n ≡ Some constraint
  pub link_is : constraint.link ≡ link

-- constraint number n is this link, and is in the lattice
pub record Stands (sys : System) (lattice n : ℕ) (link : Link) : Type 0 where
  pub constraint : Constraint
  pub there : slice_get sys.constraints n ≡ Some constraint
  pub link_is : constraint.link ≡ link
  pub carried : IsInLattice lattice link constraint.lattices

-- the two owners where a call at the site leads from one to the other
pub record Calls (sys : System) (site : ℕ) (outer inner : Owner) : Type 0 where
  pub it : Site
  pub there : slice_get sys.sites site ≡ Some it
  pub outer_is : outer ≡ it.owner
  pub inner_is : inner ≡ Function it.target

-- No flow joins variables of two functions, and each site leads from its owner to its target and back.
pub record IsWellOwned (sys : System) : Type 0 where
  pub le : (n u v f g : ℕ) → Has sys n (Le u v) → owner_of sys u ≡ Function f → owner_of sys v ≡ Function g → f ≡ g
  pub enter : (n s u v : ℕ) → Has sys n (Enter s u v) → Calls sys s (owner_of sys u) (owner_of sys v)
  pub leave : (n s u v : ℕ) → Has sys n (Leave s u v) → Calls sys s (owner_of sys v) (owner_of sys u)

-- the most constraints that a system may have
abbrev pub most_constraints : ℕ
most_constraints = 67108864

-- the most variables that a system may have
abbrev pub most_variables : ℕ
most_variables = 16777216

-- One more than the highest variable number of a link.
abbrev pub vars_of_link : Link → ℕ
vars_of_link (Le u v) = max (u + 1) (v + 1)
vars_of_link (Const l e v) = v + 1
vars_of_link (Bound v l e) = v + 1
vars_of_link (Enter s u v) = max (u + 1) (v + 1)
vars_of_link (Leave s u v) = max (u + 1) (v + 1)

-- one more than the highest variable number of constraints, 0 where there are none
abbrev pub highest : List Constraint → ℕ
highest [] = 0
highest (c ∷ cs) = max (vars_of_link c.link) (highest cs)

-- one more than the highest variable number in a constraint or of a variable whose owner was set
abbrev pub vars_of : System → ℕ
vars_of sys = max (length sys.owners) (highest sys.constraints)

-- The limits on the numbers of a link: variables, lattices, elements and the sites that there are.
abbrev pub IsWithin : ℕ → Link → Type 0
IsWithin sites (Le u v) = (u < 2 ^ 24) × (v < 2 ^ 24)
IsWithin sites (Const l e v) = (l < 16) × (e < 64) × (v < 2 ^ 24)
IsWithin sites (Bound v l e) = (l < 16) × (e < 64) × (v < 2 ^ 24)
IsWithin sites (Enter s u v) = (s < sites) × (u < 2 ^ 24) × (v < 2 ^ 24)
IsWithin sites (Leave s u v) = (s < sites) × (u < 2 ^ 24) × (v < 2 ^ 24)

-- every constraint is within the limits
abbrev pub AllWithin : System → Type 0
AllWithin sys = (n : ℕ) (link : Link) → Has sys n link → IsWithin (length sys.sites) link

-- no constraint names a variable as high as this number
abbrev pub AllBelow : System → ℕ → Type 0
AllBelow sys vars = (n : ℕ) (link : Link) → Has sys n link → vars_of_link link ≤ vars

-- one variable has this owner, and all others keep theirs
pub record SetsOwner (old new : System) (v : ℕ) (owner : Owner) : Type 0 where
  pub constraints : new.constraints ≡ old.constraints
  pub sites : new.sites ≡ old.sites
  pub owner_is : owner_of new v ≡ owner
  pub others : (u : ℕ) → u ≢ v → owner_of new u ≡ owner_of old u
  pub known : length new.owners ≡ max (length old.owners) (v + 1)
