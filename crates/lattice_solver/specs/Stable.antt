-- Sets that no constraint makes grow.
use Rattle.std.specs.Prelude.{ℕ, ◌<◌, ◌≤◌, List, length}
use Rattle.flow_graph.specs.declared.constraint.Link.TheVariants.{Le, Const, Enter, Leave}
use Rattle.flow_graph.specs.System.{System, AllBelow, Has, Stands}
use Rattle.flow_graph.specs.Index.{IsIndexOf}
use Rattle.match_summary.specs.Crossings.{AreCrossings}
use Rattle.match_summary.specs.declared.reason.Summary.{Summary}
use Rattle.match_summary.specs.Summary.{Leads, AreOfOne, Summarises}
use Rattle.flow_graph.specs.declared.phase.Phase.{Phase}
use Rattle.flow_graph.specs.declared.phase.Phase.TheVariants.{First, Second}
use Rattle.lattice_solver.specs.PhaseSets.{PhaseSets}
use Rattle.lattice_solver.specs.Phases.{set_of, size_of, HasIn, Includes, StartsAnew, AllLeadTo, AllLeadIn}
use Rattle.lattice_solver.specs.Working.{had_of}
use Rattle.lattice_solver.specs.declared.turns.Flows.{Flows}
use Rattle.lattice_solver.specs.declared.work.Taken.{Taken}

-- what was lent is of one system, in which variables are below a number
pub record AreOfSystem (flows : Flows) (vars : ℕ) : Type 0 where
  pub lattice : flows.lattice < 16
  pub below : AllBelow flows.graph.now vars
  pub indexed : IsIndexOf flows.graph.now flows.index.now
  pub crossings : AreCrossings flows.graph.now flows.crossings.now
  pub summarised : Summarises flows.graph.now flows.lattice flows.summaries.now

module _ (sys : System) (lattice : ℕ) (rows : List Summary) where
  -- the group of an Enter of a site to a variable and of a constraint that leaves from another brings sets from its
  -- beginning to its end
  abbrev pub IsPassedFrom : (Phase → ℕ) → PhaseSets → ℕ → ℕ → ℕ → ℕ → Type 0
  IsPassedFrom had sets site inner b leave =
      (v : ℕ) → Stands sys lattice leave (Leave site b v) → Leads rows inner b → AreOfOne sys inner b →
      (p : Phase) → Includes (had p) sets p v

  -- from whatever variable it leaves
  abbrev pub IsPassed : (Phase → ℕ) → PhaseSets → ℕ → ℕ → ℕ → Type 0
  IsPassed had sets site inner leave = (b : ℕ) → IsPassedFrom had sets site inner b leave

  -- What an Enter has is at the end of each group of its site that begins at its variable, and what a Leave has at the
  -- end of each Leave of its site from its variable.
  pub record IsOver (passed sets : PhaseSets) : Type 0 where
    pub room : length sys.constraints ≤ size_of passed
    pub groups : (n s u a m : ℕ) → Has sys n (Enter s u a) → IsPassed (λ p. set_of passed p n) sets s a m
    pub leaves : (n s b w m v : ℕ) → Has sys n (Leave s b w) → Stands sys lattice m (Leave s b v) → (p : Phase)
        → Includes (set_of passed p n) sets p v

  -- A constraint that begins at a variable brings the variable's sets to its end, and to the ends of the groups that it
  -- begins, in the phases that it leads to.
  pub record IsCarried (had : Phase → ℕ) (sets : PhaseSets) (u n : ℕ) : Type 0 where
    pub flow : (v : ℕ) → Stands sys lattice n (Le u v) → (p : Phase) → Includes (had p) sets p v
    pub back : (s v : ℕ) → Stands sys lattice n (Leave s u v) → Includes (had First) sets First v
    pub call : (s v : ℕ) → Stands sys lattice n (Enter s u v) → (p : Phase) → Includes (had p) sets Second v
    pub group : (s a m : ℕ) → Stands sys lattice n (Enter s u a) → IsPassed had sets s a m

  -- no constraint that begins at a variable brings anything new
  pub record AgreesAt (sets : PhaseSets) (u : ℕ) : Type 0 where
    pub carried : (n : ℕ) → IsCarried (λ p. set_of sets p u) sets u n
    pub anew : StartsAnew sys sets u

-- each constant is in the first set of its variable
abbrev pub AreBegun : System → ℕ → PhaseSets → Type 0
AreBegun sys lattice sets = (n e v : ℕ) → Stands sys lattice n (Const lattice e v) → HasIn sets First v e

-- Sets hold only what leads to their variables, if they did and what was taken does.
abbrev pub StaySound : Flows → Taken → PhaseSets → PhaseSets → Type 0
StaySound flows taken old new = ((p : Phase) → AllLeadTo flows.graph.now flows.lattice (had_of taken p) p taken.at) →
    AllLeadIn flows.graph.now flows.lattice old → AllLeadIn flows.graph.now flows.lattice new
