-- What leads to each variable in each phase.
use Rattle.std.specs.Prelude.{◌≡◌, ◌≢◌, ℕ, ◌+◌, ◌<◌, ◌≤◌, Bool, length, slice_index}
use Rattle.std.specs.Bool.{OnTrue, OnFalse}
use Rattle.std.specs.Int.{bit_at}
use Rattle.qual_base.specs.declared.places.Owner.TheVariants.{Nobody}
use Rattle.flow_graph.specs.System.{System, owner_of}
use Rattle.flow_graph.specs.Paths.{Returning, Calling}
use Rattle.flow_graph.specs.declared.phase.Phase.{Phase}
use Rattle.flow_graph.specs.declared.phase.Phase.TheVariants.{First, Second}
use Rattle.lattice_solver.specs.PhaseSets.{PhaseSets}
use Rattle.lattice_solver.specs.Sets.{room}

-- the set of a variable in a phase
abbrev pub set_of : PhaseSets → Phase → ℕ → ℕ
set_of sets First v = slice_index sets.first v
set_of sets Second v = slice_index sets.second v

-- for how many variables there are sets
abbrev pub size_of : PhaseSets → ℕ
size_of sets = length sets.first

-- a variable has an element in a phase
abbrev pub HasIn : PhaseSets → Phase → ℕ → ℕ → Type 0
HasIn sets p v e = bit_at (set_of sets p v) e ≡ 1

-- a path from a constant of the element ends at the variable in the phase
abbrev pub LeadsIn : System → ℕ → Phase → ℕ → ℕ → Type 0
LeadsIn sys lattice First e v = Returning sys lattice e v
LeadsIn sys lattice Second e v = Calling sys lattice e v

-- each element of a set leads to a variable in a phase
abbrev pub AllLeadTo : System → ℕ → ℕ → Phase → ℕ → Type 0
AllLeadTo sys lattice set p v = (e : ℕ) → bit_at set e ≡ 1 → LeadsIn sys lattice p e v

-- each element of each set leads to its variable in its phase
abbrev pub AllLeadIn : System → ℕ → PhaseSets → Type 0
AllLeadIn sys lattice sets = (p : Phase) (v e : ℕ) → HasIn sets p v e → LeadsIn sys lattice p e v

-- a variable has all of a set in a phase
abbrev pub Includes : ℕ → PhaseSets → Phase → ℕ → Type 0
Includes set sets p v = (e : ℕ) → bit_at set e ≡ 1 → HasIn sets p v e

-- at a variable of nobody what comes in the second phase comes in the first
abbrev pub StartsAnew : System → PhaseSets → ℕ → Type 0
StartsAnew sys sets v = owner_of sys v ≡ Nobody → Includes (set_of sets Second v) sets First v

-- how much the sets of both phases may still grow
abbrev pub room_of : PhaseSets → ℕ
room_of sets = room sets.first + room sets.second

-- sets after a step that says whether it has made one grow
pub record Moves (old new : PhaseSets) (grew : Bool) : Type 0 where
  pub less : OnTrue grew (room_of new < room_of old)
  pub same : OnFalse grew (new ≡ old)
  pub size : size_of new ≡ size_of old

-- sets after those of one variable have grown or stayed
pub record IsRaised (old new : PhaseSets) (at : ℕ) : Type 0 where
  pub room : room_of new ≤ room_of old
  pub size : size_of new ≡ size_of old
  pub kept : (p : Phase) (v e : ℕ) → HasIn old p v e → HasIn new p v e
  pub others : (p : Phase) (v : ℕ) → v ≢ at → set_of new p v ≡ set_of old p v
