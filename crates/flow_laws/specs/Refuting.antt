-- What a path from a constant to a variable shows of the assignments.
use Rattle.std.specs.Prelude.{◌≡◌, ℕ, ◌<◌, true, false, List}
use Rattle.lattice_core.specs.Order.{Order, size, leq, IsOrder}
use Rattle.flow_graph.specs.declared.constraint.Link.{Link}
use Rattle.flow_graph.specs.declared.constraint.Link.TheVariants.{Le, Const, Bound, Enter, Leave}
use Rattle.flow_graph.specs.declared.constraint.Constraint.{Constraint}
use Rattle.flow_graph.specs.System.{System, owner_of, Stands, IsWellOwned}
use Rattle.flow_graph.specs.CallStrings.{IsCopy}
use Rattle.flow_graph.specs.Unfolding.{Assignment, at, Rises, IsExceeded, IsAcceptedIn, NamesElementsIn}
use Rattle.flow_graph.specs.Paths.{Lead}

-- at some depth the variable has a copy at which each assignment that rises is at or above the element
pub record Forces (sys : System) (lattice : ℕ) (order : Order) (e v : ℕ) : Type 0 where
  pub depth : ℕ
  pub sites : List ℕ
  pub copy : IsCopy sys depth (owner_of sys v) sites
  pub above : (map : Assignment) → Rises sys lattice order depth map → leq order e (at sys map v sites) ≡ true

-- In a well owned system each element that leads to a variable is forced on one of its copies.
abbrev pub LeadsForce : Type 0
LeadsForce =
    (sys : System) (lattice : ℕ) (order : Order) → IsWellOwned sys → IsOrder order → (e v : ℕ) → Lead sys lattice e v →
    Forces sys lattice order e v

-- A path from a constant to a bound that is not at or above it shows that the bound is exceeded.
abbrev pub PathsRefute : Type 0
PathsRefute =
    (sys : System) (lattice : ℕ) (order : Order) → IsWellOwned sys → IsOrder order → (e v n b : ℕ)
    → Lead sys lattice e v →
    Stands sys lattice n (Bound v lattice b) → leq order e b ≡ false → IsExceeded sys lattice order n

-- A system with an exceeded bound is not accepted.
abbrev pub ExceededIsRefuted : Type 0
ExceededIsRefuted =
    (sys : System) (lattice : ℕ) (order : Order) (n : ℕ) → IsExceeded sys lattice order n
    → IsAcceptedIn sys lattice order → ⊥

-- In an accepted well owned system no constant leads to a bound that it is not at or below.
abbrev pub AcceptedKeepsPaths : Type 0
AcceptedKeepsPaths =
    (sys : System) (lattice : ℕ) (order : Order) → IsWellOwned sys → IsOrder order → IsAcceptedIn sys lattice order →
    (e v n b : ℕ) → Lead sys lattice e v → Stands sys lattice n (Bound v lattice b) → leq order e b ≡ true

-- A system whose constraints another one has too, with its sites and owners, is accepted where that one is.
abbrev pub MoreIsHarder : Type 0
MoreIsHarder = (sys : System) (more : List Constraint) (lattice : ℕ) (order : Order) →
    ((n : ℕ) (link : Link) → Stands sys lattice n link → (m : ℕ)
    × Stands (record sys { constraints = more }) lattice m link) →
    IsAcceptedIn (record sys { constraints = more }) lattice order → IsAcceptedIn sys lattice order

-- A system without a constant is accepted.
abbrev pub NoConstantIsAccepted : Type 0
NoConstantIsAccepted =
    (sys : System) (lattice : ℕ) (order : Order) → IsOrder order → NamesElementsIn sys lattice order →
    (bottom : ℕ) → bottom < size order → ((a : ℕ) → a < size order → leq order bottom a ≡ true) →
    ((n e v : ℕ) → Stands sys lattice n (Const lattice e v) → ⊥) → IsAcceptedIn sys lattice order

-- One element for each variable, whatever the copy, that meets all constraints, calls and returns taken for flows.
pub record MeetsAtOnce (sys : System) (lattice : ℕ) (order : Order) (one : ℕ → ℕ) : Type 0 where
  pub elements : (v : ℕ) → one v < size order
  pub le : (n u v : ℕ) → Stands sys lattice n (Le u v) → leq order (one u) (one v) ≡ true
  pub const : (n e v : ℕ) → Stands sys lattice n (Const lattice e v) → leq order e (one v) ≡ true
  pub enter : (n s u v : ℕ) → Stands sys lattice n (Enter s u v) → leq order (one u) (one v) ≡ true
  pub leave : (n s u v : ℕ) → Stands sys lattice n (Leave s u v) → leq order (one u) (one v) ≡ true
  pub bound : (n v e : ℕ) → Stands sys lattice n (Bound v lattice e) → leq order (one v) e ≡ true

-- What a type system without copies of functions accepts (Foster et al.) is accepted.
abbrev pub OneCopyServes : Type 0
OneCopyServes =
    (sys : System) (lattice : ℕ) (order : Order) (one : ℕ → ℕ) → MeetsAtOnce sys lattice order one
    → IsAcceptedIn sys lattice order
