-- How a search reaches variables: a queue of those that were reached, each with how it was, and a mark for each of
-- them.
use Rattle.std.specs.Prelude.{◌≡◌, ℕ, ◌+◌, ◌<◌, ◌≤◌, List, ◌++◌, length, slice_get, Some, true}
use Rattle.flow_graph.specs.declared.constraint.Link.TheVariants.{Le, Const, Enter, Leave}
use Rattle.flow_graph.specs.System.{System, owner_of, Has, Stands, AllBelow}
use Rattle.match_summary.specs.declared.reason.Summary.{Summary}
use Rattle.match_summary.specs.Summary.{Leads}
use Rattle.flow_graph.specs.declared.phase.Phase.{Phase}
use Rattle.flow_graph.specs.declared.phase.Phase.TheVariants.{First, Second}
use Rattle.error_path.specs.Marks.{PhaseMarks, mark_of, size_of, free_of}
use Rattle.error_path.specs.declared.search.Cause.{Cause}
use Rattle.error_path.specs.declared.search.Cause.TheVariants.{Start, Here, Step, Group}
use Rattle.error_path.specs.declared.search.Origin.{Origin}
use Rattle.error_path.specs.declared.search.Origin.TheVariants.{Element, Variable}
use Rattle.error_path.specs.declared.search.Reached.{Reached}
use Rattle.error_path.specs.declared.search.Search.{Search}
use Rattle.flow_graph.specs.Parts.{settled}

-- a constraint leads from a variable in a phase to a variable in a phase
pub data LeadsBy (sys : System) (lattice : ℕ) : ℕ → Phase → ℕ → Phase → ℕ → Type 0 where
  ByFlow : (n u v : ℕ) (p q : Phase) → Stands sys lattice n (Le u v) → q ≡ settled (owner_of sys v) p
      → LeadsBy sys lattice n p u q v
  ByLeave : (n s u v : ℕ) (q : Phase) → Stands sys lattice n (Leave s u v) → q ≡ settled (owner_of sys v) First
      → LeadsBy sys lattice n First u q v
  ByEnter : (n s u v : ℕ) (p q : Phase) → Stands sys lattice n (Enter s u v) → q ≡ settled (owner_of sys v) Second
      → LeadsBy sys lattice n p u q v

-- so does a group, inside which nothing or a summary leads from its Enter to its Leave
pub record LeadsAround (sys : System) (lattice : ℕ) (rows : List Summary) (enter leave : ℕ) (p : Phase) (u : ℕ)
    (q : Phase) (v : ℕ) : Type 0 where
  pub site : ℕ
  pub inner : ℕ
  pub last : ℕ
  pub enters : Stands sys lattice enter (Enter site u inner)
  pub leaves : Stands sys lattice leave (Leave site last v)
  pub joined : Leads rows inner last
  pub phase_is : q ≡ settled (owner_of sys v) p

-- a place of a queue that comes before another
pub record Earlier (queue : List Reached) (from place : ℕ) : Type 0 where
  pub it : Reached
  pub there : slice_get queue from ≡ Some it
  pub before : from < place

-- A variable was reached by a constant of the element that the search goes out from, as the variable that it goes out
-- from, or from an earlier place of the queue.
abbrev pub ComesBy : System → ℕ → Origin → List Summary → List Reached → ℕ → Phase → ℕ → Cause → Type 0
ComesBy sys lattice origin rows queue place q v (Start n) =
    (elem : ℕ) × (origin ≡ Element elem) × Stands sys lattice n (Const lattice elem v)
    × (q ≡ settled (owner_of sys v) First)
ComesBy sys lattice origin rows queue place q v Here = (origin ≡ Variable v) × (q ≡ settled (owner_of sys v) First)
ComesBy sys lattice origin rows queue place q v (Step from n) =
    (e : Earlier queue from place) × LeadsBy sys lattice n e.it.phase e.it.at q v
ComesBy sys lattice origin rows queue place q v (Group from enter leave) =
    (e : Earlier queue from place) × LeadsAround sys lattice rows enter leave e.it.phase e.it.at q v

-- each item of the queue says how its variable was reached
abbrev pub AreSound : System → ℕ → Origin → List Summary → List Reached → Type 0
AreSound sys lattice origin rows queue =
    (n : ℕ) (r : Reached) → slice_get queue n ≡ Some r → ComesBy sys lattice origin rows queue n r.phase r.at r.cause

-- the variable that a search goes out from, if it is one, is below a number
abbrev pub HasRoom : Origin → ℕ → Type 0
HasRoom (Element e) vars = Unit {0}
HasRoom (Variable v) vars = v < vars

-- a variable is marked in a phase
abbrev pub IsMarked : Search → Phase → ℕ → Type 0
IsMarked search p v = mark_of search.marks p v ≡ true

-- a variable stands in a queue with a phase
pub record IsListed (queue : List Reached) (p : Phase) (v : ℕ) : Type 0 where
  pub place : ℕ
  pub it : Reached
  pub there : slice_get queue place ≡ Some it
  pub phase_is : it.phase ≡ p
  pub at_is : it.at ≡ v

-- a queue is sound, has all that is marked, and there is a mark for each variable of a constraint
pub record IsGood (sys : System) (lattice : ℕ) (origin : Origin) (rows : List Summary) (search : Search) : Type 0 where
  pub sound : AreSound sys lattice origin rows search.queue.items
  pub listed : (p : Phase) (v : ℕ) → IsMarked search p v → IsListed search.queue.items p v
  pub below : AllBelow sys (size_of search.marks)

-- whatever it goes out from, a search that was good is so afterwards
abbrev pub StaysGood : System → ℕ → List Summary → Search → Search → Type 0
StaysGood sys lattice rows old new =
    (origin : Origin) → IsGood sys lattice origin rows old → IsGood sys lattice origin rows new

-- a search after it went on: each item takes one of the marks that were left
pub record Grows (old new : Search) : Type 0 where
  pub more : List Reached
  pub is : new.queue.items ≡ old.queue.items ++ more
  pub kept : (p : Phase) (v : ℕ) → IsMarked old p v → IsMarked new p v
  pub size : size_of new.marks ≡ size_of old.marks
  pub free : free_of new.marks + length new.queue.items ≤ free_of old.marks + length old.queue.items

-- the group of an Enter of a site to a variable and of a constraint that leaves from another was followed in a phase
abbrev pub IsRoundedFrom : System → ℕ → List Summary → Search → Phase → ℕ → ℕ → ℕ → ℕ → Type 0
IsRoundedFrom sys lattice rows search p site inner b leave =
    (v : ℕ) → Stands sys lattice leave (Leave site b v) → Leads rows inner b →
    IsMarked search (settled (owner_of sys v) p) v

-- from whatever variable it leaves
abbrev pub IsRounded : System → ℕ → List Summary → Search → Phase → ℕ → ℕ → ℕ → Type 0
IsRounded sys lattice rows search p site inner leave =
    (b : ℕ) → IsRoundedFrom sys lattice rows search p site inner b leave

-- An Enter that is marked stands for the groups of its site that begin at its variable, and a Leave for all Leaves of
-- its site from its variable: they were followed.
pub record IsOver (sys : System) (lattice : ℕ) (rows : List Summary) (passed : PhaseMarks)
    (search : Search) : Type 0 where
  pub room : length sys.constraints ≤ size_of passed
  pub groups : (p : Phase) (n s u a m : ℕ) → mark_of passed p n ≡ true → Has sys n (Enter s u a)
      → IsRounded sys lattice rows search p s a m
  pub leaves : (p : Phase) (n s b w m v : ℕ) → mark_of passed p n ≡ true → Has sys n (Leave s b w)
      → Stands sys lattice m (Leave s b v) →
      IsMarked search (settled (owner_of sys v) p) v

-- all that a constraint leads to from a variable in a phase, by itself or as the first of a group, is marked
pub record IsFollowed (sys : System) (lattice : ℕ) (rows : List Summary) (search : Search) (p : Phase)
    (u n : ℕ) : Type 0 where
  pub flow : (v : ℕ) → Stands sys lattice n (Le u v) → IsMarked search (settled (owner_of sys v) p) v
  pub back : (s v : ℕ) → p ≡ First → Stands sys lattice n (Leave s u v)
      → IsMarked search (settled (owner_of sys v) First) v
  pub call : (s a : ℕ) → Stands sys lattice n (Enter s u a) → IsMarked search (settled (owner_of sys a) Second) a
  pub group : (s a m : ℕ) → Stands sys lattice n (Enter s u a) → IsRounded sys lattice rows search p s a m

-- all that the constraints lead to from a place of the queue is marked
abbrev pub IsVisited : System → ℕ → List Summary → Search → ℕ → Type 0
IsVisited sys lattice rows search place =
    (r : Reached) → slice_get search.queue.items place ≡ Some r → (n : ℕ)
    → IsFollowed sys lattice rows search r.phase r.at n

-- all constants of the element are marked, or the variable is
abbrev pub AreStarted : System → ℕ → Origin → Search → Type 0
AreStarted sys lattice (Element e) search =
    (n v : ℕ) → Stands sys lattice n (Const lattice e v) → IsMarked search (settled (owner_of sys v) First) v
AreStarted sys lattice (Variable v) search = IsMarked search (settled (owner_of sys v) First) v

-- a place of the queue has this variable and this phase
abbrev pub StandsAt : Search → ℕ → Phase → ℕ → Type 0
StandsAt search place p v = (r : Reached) × (slice_get search.queue.items place ≡ Some r) × (r.phase ≡ p) × (r.at ≡ v)
