-- Systems that differ by how their variables, sites, functions and constraints are numbered.
use Rattle.std.specs.Prelude.{◌≡◌, ℕ, Option, None, Some, slice_get}
use Rattle.qual_base.specs.declared.places.Owner.{Owner}
use Rattle.qual_base.specs.declared.places.Owner.TheVariants.{Nobody, Function}
use Rattle.flow_graph.specs.declared.constraint.Link.{Link}
use Rattle.flow_graph.specs.declared.constraint.Link.TheVariants.{Le, Const, Bound, Enter, Leave}
use Rattle.flow_graph.specs.declared.constraint.Constraint.{Constraint}
use Rattle.flow_graph.specs.declared.constraint.Site.{Site}
use Rattle.flow_graph.specs.System.{System, owner_of}

-- A numbering: the new number of each old one and the old one of each new one. No two have one new number, and no new
-- number is left out.
pub record Numbering : Type 0 where
  pub to : ℕ → ℕ
  pub from : ℕ → ℕ
  pub from_to : (n : ℕ) → from (to n) ≡ n
  pub to_from : (n : ℕ) → to (from n) ≡ n

-- new numbers of variables, sites, functions and constraints
pub record Renaming : Type 0 where
  pub vars : Numbering
  pub sites : Numbering
  pub functions : Numbering
  pub constraints : Numbering

-- a numbering the other way
abbrev pub back : Numbering → Numbering
back it = record { to = it.from; from = it.to; from_to = it.to_from; to_from = it.from_to }

-- the renaming the other way
abbrev pub turned : Renaming → Renaming
turned ren = record {
  vars = back ren.vars;
  sites = back ren.sites;
  functions = back ren.functions;
  constraints = back ren.constraints;
}

-- an owner under new numbers
abbrev pub renamed_owner : Renaming → Owner → Owner
renamed_owner ren Nobody = Nobody
renamed_owner ren (Function f) = Function (ren.functions.to f)

-- lattices and elements keep their numbers
abbrev pub renamed_link : Renaming → Link → Link
renamed_link ren (Le u v) = Le (ren.vars.to u) (ren.vars.to v)
renamed_link ren (Const l e v) = Const l e (ren.vars.to v)
renamed_link ren (Bound v l e) = Bound (ren.vars.to v) l e
renamed_link ren (Enter s u v) = Enter (ren.sites.to s) (ren.vars.to u) (ren.vars.to v)
renamed_link ren (Leave s u v) = Leave (ren.sites.to s) (ren.vars.to u) (ren.vars.to v)

-- the same constraint, in the same lattices, from whatever tokens
pub record IsSameConstraint (ren : Renaming) (old new : Constraint) : Type 0 where
  pub link_is : new.link ≡ renamed_link ren old.link
  pub lattices_are : new.lattices ≡ old.lattices

-- the same site, at whatever token
pub record IsSameSite (ren : Renaming) (old new : Site) : Type 0 where
  pub target_is : new.target ≡ ren.functions.to old.target
  pub owner_is : new.owner ≡ renamed_owner ren old.owner

-- both are there, and are the same, or neither is
abbrev pub Agree : {A : Type 0} → (A → A → Type 0) → Option A → Option A → Type 0
Agree same None None = Unit {0}
Agree same None (Some y) = ⊥
Agree same (Some x) None = ⊥
Agree same (Some x) (Some y) = same x y

-- One system is the other under its numbers: each constraint, each site and the owner of each variable, and no others.
pub record IsRenamed (ren : Renaming) (sys other : System) : Type 0 where
  pub constraints : (n : ℕ)
      → Agree (IsSameConstraint ren) (slice_get sys.constraints n) (slice_get other.constraints (ren.constraints.to n))
  pub sites : (s : ℕ) → Agree (IsSameSite ren) (slice_get sys.sites s) (slice_get other.sites (ren.sites.to s))
  pub owners : (v : ℕ) → owner_of other (ren.vars.to v) ≡ renamed_owner ren (owner_of sys v)
