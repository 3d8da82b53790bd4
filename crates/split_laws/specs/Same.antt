-- Systems of the same constraints, whose variables in these have the same owners: other variables and sites may be
-- added.
use Rattle.std.specs.Prelude.{◌≡◌, ℕ, ◌↔◌}
use Rattle.flow_graph.specs.declared.constraint.Link.{Link}
use Rattle.flow_graph.specs.declared.constraint.Link.TheVariants.{Le, Const, Bound, Enter, Leave}
use Rattle.lattice_core.specs.Order.{Order}
use Rattle.flow_graph.specs.System.{System, owner_of, Has}
use Rattle.flow_graph.specs.Paths.{Matches, Returning, Lead}
use Rattle.flow_laws.specs.Least.{IsSafe}

-- a variable has the same owner in both systems
abbrev pub SameOwner : System → System → ℕ → Type 0
SameOwner one other v = owner_of one v ≡ owner_of other v

-- each variable of a link has the same owner in both systems
abbrev pub SameOwners : System → System → Link → Type 0
SameOwners one other (Le u v) = SameOwner one other u × SameOwner one other v
SameOwners one other (Const l e v) = SameOwner one other v
SameOwners one other (Bound v l b) = SameOwner one other v
SameOwners one other (Enter s u v) = SameOwner one other u × SameOwner one other v
SameOwners one other (Leave s u v) = SameOwner one other u × SameOwner one other v

-- two systems have the same constraints, and their variables in these have the same owners
pub record AreSame (one other : System) : Type 0 where
  pub constraints : one.constraints ≡ other.constraints
  pub owners : (n : ℕ) (link : Link) → Has one n link → SameOwners one other link

-- They have the same paths, and are safe alike.
pub record HaveSamePaths (one other : System) (lattice : ℕ) : Type 0 where
  pub matches : (g a v : ℕ) → SameOwner one other a → Matches one lattice g a v ↔ Matches other lattice g a v
  pub returning : (e v : ℕ) → Returning one lattice e v ↔ Returning other lattice e v
  pub lead : (e v : ℕ) → Lead one lattice e v ↔ Lead other lattice e v
  pub safe : (order : Order) → IsSafe one lattice order ↔ IsSafe other lattice order

-- two such systems have the same paths
abbrev pub SamePaths : Type 0
SamePaths = (one other : System) (lattice : ℕ) → AreSame one other → HaveSamePaths one other lattice
