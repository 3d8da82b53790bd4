-- What is true of the sets while they are carried from one variable to another.
use Rattle.std.specs.Prelude.{◌≡◌, ℕ, ◌+◌, ◌-◌, ◌^◌, ◌≤◌, ◌⊎◌, List, [], ◌∷◌, ◌++◌, length}
use Rattle.std.specs.Int.{bit_at}
use Rattle.std.specs.List.{Contains}
use Rattle.flow_graph.specs.declared.constraint.Link.TheVariants.{Le, Bound, Enter, Leave}
use Rattle.flow_graph.specs.System.{System, AllBelow, Stands}
use Rattle.flow_graph.specs.Index.{IsIndexOf}
use Rattle.match_summary.specs.declared.reason.Summary.{Summary}
use Rattle.match_summary.specs.Summary.{Leads, AreOfOne, Summarises}
use Rattle.bounds_below.specs.declared.flows.Flows.{Flows}
use Rattle.bounds_below.specs.declared.work.Work.{Work}
use Rattle.bounds_below.specs.Below.{set_at, Reaches}

-- an element is in the set of a variable
abbrev pub Has : List ℕ → ℕ → ℕ → Type 0
Has sets v b = bit_at (set_at sets v) b ≡ 1

-- a variable has all of a set
abbrev pub Includes : ℕ → List ℕ → ℕ → Type 0
Includes set sets v = (b : ℕ) → bit_at set b ≡ 1 → Has sets v b

-- a variable leads to bounds of all elements of a set
abbrev pub AllReach : System → ℕ → ℕ → ℕ → Type 0
AllReach sys lattice set v = (b : ℕ) → bit_at set b ≡ 1 → Reaches sys lattice v b

-- each variable leads to bounds of all that it has
abbrev pub AreSound : System → ℕ → List ℕ → Type 0
AreSound sys lattice sets = (v b : ℕ) → Has sets v b → Reaches sys lattice v b

-- the element of each bound is in the set of its variable
abbrev pub AreBegun : System → ℕ → List ℕ → Type 0
AreBegun sys lattice sets = (n v b : ℕ) → Stands sys lattice n (Bound v lattice b) → Has sets v b

-- the room that is left in sets of 64 bits
abbrev pub room : List ℕ → ℕ
room [] = 0
room (set ∷ sets) = (2 ^ 64 - set) + room sets

-- a variable waits
abbrev pub Waits : Work → ℕ → Type 0
Waits work v = Contains work.waiting.items v

-- what each turn that takes a variable makes less
abbrev pub left_in : Work → ℕ
left_in work = room work.sets.items + length work.waiting.items

-- Sets have grown or stayed. Who waited waits, and who does not wait has what he had.
pub record Gains (old new : Work) : Type 0 where
  pub size : length new.sets.items ≡ length old.sets.items
  pub left : left_in new ≤ left_in old
  pub kept : (v b : ℕ) → Has old.sets.items v b → Has new.sets.items v b
  pub waits : (v : ℕ) → Waits old v → Waits new v
  pub still : (v : ℕ) → Waits new v ⊎ (set_at new.sets.items v ≡ set_at old.sets.items v)

-- the variable that came last waits no more
abbrev pub IsTaken : Work → Work → ℕ → Type 0
IsTaken old new at = old.waiting.items ≡ new.waiting.items ++ at ∷ []

-- what was lent is of one system, in which variables are below a number
pub record AreOfSystem (flows : Flows) (vars : ℕ) : Type 0 where
  pub below : AllBelow flows.graph.now vars
  pub indexed : IsIndexOf flows.graph.now flows.index.now
  pub summarised : Summarises flows.graph.now flows.lattice flows.summaries.now

module _ (sys : System) (lattice : ℕ) (rows : List Summary) where
  -- the group of constraint m, as an Enter of a site, and of a Leave of the site from a variable brings a set back to
  -- its beginning
  abbrev pub IsPassed : ℕ → List ℕ → ℕ → ℕ → ℕ → Type 0
  IsPassed had sets site b m =
      (u a : ℕ) → Stands sys lattice m (Enter site u a) → Leads rows a b → AreOfOne sys a b → Includes had sets u

  -- constraint n brings what a variable had back to where it begins, and round the groups that end with it
  pub record IsCarried (had : ℕ) (sets : List ℕ) (v n : ℕ) : Type 0 where
    pub flow : (u : ℕ) → Stands sys lattice n (Le u v) → Includes had sets u
    pub call : (s u : ℕ) → Stands sys lattice n (Enter s u v) → Includes had sets u
    pub group : (s b m : ℕ) → Stands sys lattice n (Leave s b v) → IsPassed had sets s b m

  -- no constraint that leads to a variable brings anything new
  abbrev pub AgreesAt : List ℕ → ℕ → Type 0
  AgreesAt sets v = (n : ℕ) → IsCarried (set_at sets v) sets v n
