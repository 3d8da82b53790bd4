-- Lists of summaries, and when each of them stands for a matched path.
use Rattle.std.specs.Prelude.{◌≡◌, ℕ, ◌⊎◌, List, slice_get, take, Some}
use Rattle.std.specs.List.{Contains}
use Rattle.qual_base.specs.declared.places.Owner.TheVariants.{Function}
use Rattle.flow_graph.specs.declared.constraint.Link.TheVariants.{Le, Enter, Leave}
use Rattle.flow_graph.specs.System.{System, owner_of, Stands}
use Rattle.flow_graph.specs.Paths.{Match}
use Rattle.match_summary.specs.declared.reason.Reason.{Reason}
use Rattle.match_summary.specs.declared.reason.Reason.TheVariants.{Last, Group}
use Rattle.match_summary.specs.declared.reason.Summary.{Summary}
use Rattle.match_summary.specs.Reason.{before_of}

-- some summary leads from one variable to another
abbrev pub HasPair : List Summary → ℕ → ℕ → Type 0
HasPair rows u v = (why : Reason) × Contains rows (record { from = u; to = v; why = why })

-- nothing or a summary leads from one to another
abbrev pub Leads : List Summary → ℕ → ℕ → Type 0
Leads rows u v = (u ≡ v) ⊎ HasPair rows u v

-- both variables belong to one function
abbrev pub AreOfOne : System → ℕ → ℕ → Type 0
AreOfOne sys u v = (f : ℕ) × (owner_of sys u ≡ Function f) × (owner_of sys v ≡ Function f)

-- The part that a reason names ends at the variable: its constraints are of the lattice, and the path inside a group is
-- nothing or one of these, in one function.
abbrev pub EndsAt : System → ℕ → List Summary → Reason → ℕ → Type 0
EndsAt sys lattice rows (Last edge before) v = Stands sys lattice edge (Le before v)
EndsAt sys lattice rows (Group before enter leave) v =
    (s a b : ℕ) × Stands sys lattice enter (Enter s before a) × Leads rows a b × AreOfOne sys a b
    × Stands sys lattice leave (Leave s b v)

-- A summary's reason is right, and rests only on these.
pub record RestsOn (sys : System) (lattice : ℕ) (rows : List Summary) (row : Summary) : Type 0 where
  pub part : EndsAt sys lattice rows row.why row.to
  pub front : Leads rows row.from (before_of row.why)
  pub inside : AreOfOne sys row.from row.to

-- each summary's reason is right, and rests only on those that stand earlier
abbrev pub IsGrounded : System → ℕ → List Summary → Type 0
IsGrounded sys lattice rows =
    (n : ℕ) (row : Summary) → slice_get rows n ≡ Some row → RestsOn sys lattice (take n rows) row

-- no pair of variables stands twice
abbrev pub StandsOnce : List Summary → Type 0
StandsOnce rows = (n m : ℕ) (u v : ℕ) (p q : Reason) → slice_get rows n ≡ Some (record { from = u; to = v; why = p }) →
    slice_get rows m ≡ Some (record { from = u; to = v; why = q }) → n ≡ m

-- an Enter of the lattice leads to the variable
abbrev pub IsInnerEnd : System → ℕ → ℕ → Type 0
IsInnerEnd sys lattice a = (n s u : ℕ) × Stands sys lattice n (Enter s u a)

-- Summaries of a system in a lattice: the pairs are joined by matched paths, all that such a path joins to an inner end
-- of an Enter are there, each once, and each reason rests on pairs that stand earlier.
pub record Summarises (sys : System) (lattice : ℕ) (rows : List Summary) : Type 0 where
  pub sound : (u v : ℕ) → HasPair rows u v → Match sys lattice u v
  pub whole : (u v : ℕ) → IsInnerEnd sys lattice u → Match sys lattice u v → HasPair rows u v
  pub grounded : IsGrounded sys lattice rows
  pub once : StandsOnce rows

-- an Enter leads to the variable, or it is one of a list
abbrev pub IsStart : System → ℕ → List ℕ → ℕ → Type 0
IsStart sys lattice starts a = IsInnerEnd sys lattice a ⊎ Contains starts a

-- The summaries from inner ends of Enters and from the variables of a list: the pairs begin at these, and all that a
-- matched path joins to one of these are there.
pub record SummarisesFrom (sys : System) (lattice : ℕ) (starts : List ℕ) (rows : List Summary) : Type 0 where
  pub summaries : Summarises sys lattice rows
  pub begins : (u v : ℕ) → HasPair rows u v → IsStart sys lattice starts u
  pub whole : (u v : ℕ) → IsStart sys lattice starts u → Match sys lattice u v → HasPair rows u v
