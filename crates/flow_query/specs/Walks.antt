-- The walks that are kept from the variables of constants to the variables that are asked of.
use Rattle.std.specs.Prelude.{◌≡◌, ◌≢◌, ℕ, ◌⊎◌, Bool, ◌&&◌, ◌==◌, List, length, slice_get, Option, None, Some}
use Rattle.std.specs.List.{Contains}
use Rattle.std.specs.declared.hash.FoldHasher.{FoldHasher}
use Rattle.std.specs.declared.hash.BuildHasherDefault.{BuildHasherDefault}
use Rattle.std.specs.HashMap.{get, HashMap}
use Rattle.flow_graph.specs.declared.constraint.Link.TheVariants.{Const}
use Rattle.flow_graph.specs.declared.proof.Walk.{Walk}
use Rattle.flow_graph.specs.System.{System, Stands}
use Rattle.flow_graph.specs.Leading.{Leads}
use Rattle.flow_query.specs.declared.walks.Walks.{Walks}
use Rattle.flow_query.specs.Answers.{IsFrom, IsWalkTo}

-- whether two pairs of variables are the same
abbrev pub is_pair : ℕ × ℕ → ℕ × ℕ → Bool
is_pair a b = (a.0 == b.0) && (a.1 == b.1)

-- the walk from one variable to another in a map
abbrev pub walk_in : HashMap (ℕ × ℕ) Walk (BuildHasherDefault FoldHasher) → ℕ → ℕ → Option Walk
walk_in map u v = get is_pair map (u, v)

-- one pair of variables has this walk, and the others have theirs
pub record IsPut (old new : Walks) (u v : ℕ) (walk : Walk) : Type 0 where
  pub here : walk_in new.map u v ≡ Some walk
  pub others : (a b : ℕ) → (a ≡ u → b ≢ v) → walk_in new.map a b ≡ walk_in old.map a b

-- one variable leads to another, as a walk shows
abbrev pub IsShown : System → ℕ → ℕ → ℕ → Walk → Type 0
IsShown sys lattice u v walk = Leads sys lattice u v × IsWalkTo sys lattice u v walk

-- each is such a walk
abbrev pub AreSound : System → ℕ → Walks → Type 0
AreSound sys lattice walks = (u v : ℕ) (walk : Walk) → walk_in walks.map u v ≡ Some walk → IsShown sys lattice u v walk

-- where there is none, the one variable does not lead to the other
abbrev pub IsDone : System → ℕ → Walks → ℕ → ℕ → Type 0
IsDone sys lattice walks u v = walk_in walks.map u v ≡ None → Leads sys lattice u v → ⊥

-- what was known of which variable leads to which is still known
abbrev pub StaysDone : System → ℕ → Walks → Walks → Type 0
StaysDone sys lattice old new = (u v : ℕ) → IsDone sys lattice old u v → IsDone sys lattice new u v

-- of each variable in a list it is known whether one leads to it
abbrev pub AllDone : System → ℕ → Walks → ℕ → List ℕ → Type 0
AllDone sys lattice walks u vars = (v : ℕ) → Contains vars v → IsDone sys lattice walks u v

-- that is so from the variable of each constant
abbrev pub StartsDone : System → ℕ → Walks → List ℕ → Type 0
StartsDone sys lattice walks vars =
    (n elem u : ℕ) → Stands sys lattice n (Const lattice elem u) → AllDone sys lattice walks u vars

-- a variable is in a list, or no constant leads to it
abbrev pub IsKept : System → ℕ → List ℕ → ℕ → Type 0
IsKept sys lattice kept v = Contains kept v ⊎ ((number : ℕ) → IsFrom sys lattice v number → ⊥)

-- a walk to each of some variables from each variable of a constant that leads there
pub record AreWalks (sys : System) (lattice : ℕ) (vars : List ℕ) (walks : Walks) : Type 0 where
  pub sound : AreSound sys lattice walks
  pub done : StartsDone sys lattice walks vars

-- those of each lattice, in order
pub record AllWalks (sys : System) (lattices : ℕ) (vars : List ℕ) (all : List Walks) : Type 0 where
  pub count : length all ≡ lattices
  pub each : (n : ℕ) (walks : Walks) → slice_get all n ≡ Some walks → AreWalks sys n vars walks
