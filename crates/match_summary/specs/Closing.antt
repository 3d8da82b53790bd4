-- What the closure keeps while it looks at one pair after another, and when no pair is left.
use Rattle.std.specs.Prelude.{◌≡◌, ℕ, ◌<◌, ◌⊎◌, ◌↔◌, Bool, true, false, List, ◌++◌, length, slice_get, get_or, map, Some}
use Rattle.std.specs.List.{Contains}
use Rattle.flow_graph.specs.declared.constraint.Link.TheVariants.{Le, Enter, Leave}
use Rattle.flow_graph.specs.System.{System, AllBelow, Stands}
use Rattle.flow_graph.specs.Index.{IsIndexOf}
use Rattle.match_summary.specs.declared.reason.Reason.{Reason}
use Rattle.match_summary.specs.declared.reason.Summary.{Summary}
use Rattle.match_summary.specs.declared.closure.Premises.{Premises}
use Rattle.match_summary.specs.declared.found.Found.{Found}
use Rattle.match_summary.specs.Chained.{AreChained}
use Rattle.match_summary.specs.Crossings.{AreCrossings}
use Rattle.match_summary.specs.Summary.{HasPair, Leads, AreOfOne, IsGrounded, StandsOnce, IsInnerEnd}

-- a list of summaries after more were found
pub record Grows (old new : List Summary) : Type 0 where
  pub more : List Summary
  pub is : new ≡ old ++ more

-- pairs may begin at the variable
abbrev pub IsMarked : List Bool → ℕ → Type 0
IsMarked marks a = get_or marks a false ≡ true

-- each pair begins at a marked variable, each reason rests on earlier pairs, and no pair stands twice
pub record IsGood (sys : System) (lattice : ℕ) (marks : List Bool) (rows : List Summary) : Type 0 where
  pub begins : (u v : ℕ) → HasPair rows u v → IsMarked marks u
  pub grounded : IsGrounded sys lattice rows
  pub once : StandsOnce rows

-- the variables that the pairs lead to
abbrev pub targets : List Summary → List ℕ
targets rows = map (λ row. row.to) rows

-- what was found is good, and chained by the variables that the pairs lead to
pub record IsKept (given : Premises) (found : Found) : Type 0 where
  pub good : IsGood given.graph.now given.lattice given.marks.now found.known
  pub chained : AreChained (targets found.known) found.chains

-- a mark for each variable where an Enter leads
abbrev pub AreEnds : System → ℕ → List Bool → Type 0
AreEnds sys lattice ends = (a : ℕ) → IsMarked ends a ↔ IsInnerEnd sys lattice a

-- marks after those of some variables were set, where there are any of them
pub record AreMarkedToo (starts : List ℕ) (old new : List Bool) : Type 0 where
  pub size : length new ≡ length old
  pub kept : (a : ℕ) → IsMarked old a → IsMarked new a
  pub only : (a : ℕ) → IsMarked new a → IsMarked old a ⊎ Contains starts a
  pub all : (a : ℕ) → Contains starts a → a < length new → IsMarked new a

-- The lists are the index of the system, the number is above its variables, and its inner ends in the lattice are
-- marked.
pub record AreReady (given : Premises) : Type 0 where
  pub low : given.lattice < 16
  pub index : IsIndexOf given.graph.now given.index.now
  pub crossings : AreCrossings given.graph.now given.crossings.now
  pub below : AllBelow given.graph.now given.vars
  pub marked : (a : ℕ) → IsInnerEnd given.graph.now given.lattice a → IsMarked given.marks.now a

-- the pair is there, where its variables are of one function
abbrev pub Follows : System → List Summary → ℕ → ℕ → Type 0
Follows sys rows u w = AreOfOne sys u w → HasPair rows u w

-- constraint m, as a Leave of the site from b behind an Enter from u to a, was followed
abbrev pub IsLeftFrom : System → ℕ → List Summary → List Summary → ℕ → ℕ → ℕ → ℕ → ℕ → Type 0
IsLeftFrom sys lattice old new u s a b m =
    (w : ℕ) → Stands sys lattice m (Leave s b w) → Leads old a b → AreOfOne sys a b → Follows sys new u w

-- from whatever variable it leaves
abbrev pub IsLeft : System → ℕ → List Summary → List Summary → ℕ → ℕ → ℕ → ℕ → Type 0
IsLeft sys lattice old new u s a m = (b : ℕ) → IsLeftFrom sys lattice old new u s a b m

-- the pairs that a part from x to w adds to what leads to x
abbrev pub AllFollow : System → List Bool → List Summary → List Summary → ℕ → ℕ → Type 0
AllFollow sys marks old new x w = (t : ℕ) → IsMarked marks t → Leads old t x → Follows sys new t w

-- constraint m, as an Enter to u before a Leave of the site to w, was followed
abbrev pub IsEntered : System → ℕ → List Bool → List Summary → List Summary → ℕ → ℕ → ℕ → ℕ → Type 0
IsEntered sys lattice marks old new u s w m =
    (x : ℕ) → Stands sys lattice m (Enter s x u) → AllFollow sys marks old new x w

-- What follows from a path from u to v and constraint n is there.
pub record IsFollowed (sys : System) (lattice : ℕ) (marks : List Bool) (old new : List Summary)
    (u v n : ℕ) : Type 0 where
  pub flow : (w : ℕ) → Stands sys lattice n (Le v w) → Follows sys new u w
  pub enter : (s a m : ℕ) → Stands sys lattice n (Enter s v a) → IsLeft sys lattice old new u s a m
  pub leave : (s w m : ℕ) → Stands sys lattice n (Leave s v w) → AreOfOne sys u v
      → IsEntered sys lattice marks old new u s w m

-- What follows from a path from u to v is there.
abbrev pub IsLookedAt : System → ℕ → List Bool → List Summary → List Summary → ℕ → ℕ → Type 0
IsLookedAt sys lattice marks old new u v = (n : ℕ) → IsFollowed sys lattice marks old new u v n

-- The paths that were looked at: nothing at each variable below `low`, and each pair before place `at`.
abbrev pub Looked : List Summary → ℕ → ℕ → ℕ → ℕ → Type 0
Looked rows low at u v =
    ((u ≡ v) × (u < low))
    ⊎ ((n : ℕ) × (why : Reason) × (n < at) × (slice_get rows n ≡ Some (record { from = u; to = v; why = why })))

-- What follows by the rules from such paths is there.
pub record AreDone (sys : System) (lattice : ℕ) (marks : List Bool) (Path : ℕ → ℕ → Type 0)
    (rows : List Summary) : Type 0 where
  pub flow : (n u v w : ℕ) → IsMarked marks u → Path u v → Stands sys lattice n (Le v w) → Follows sys rows u w
  pub group : (n m s u x a b w : ℕ) → IsMarked marks u → Path u x → Stands sys lattice n (Enter s x a)
      → (a ≡ b) ⊎ Path a b → AreOfOne sys a b →
      Stands sys lattice m (Leave s b w) → Follows sys rows u w

-- All that follows by the rules is there.
abbrev pub IsClosed : System → ℕ → List Bool → List Summary → Type 0
IsClosed sys lattice marks rows = AreDone sys lattice marks (Leads rows) rows
