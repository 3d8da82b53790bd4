-- What the walk over a path knows at each step.
use Rattle.std.proofs.Common.{◌≡◌, ℕ, Bool, false, not, List, [], ◌∷◌, Option, None, Some, map, refl}
use Rattle.qual_base.proofs.Tests.{and_false}
use Rattle.lattice_core.specs.View.{LatticeView}
use Rattle.flow_graph.specs.declared.proof.PathStep.{PathStep}
use Rattle.flow_graph.specs.declared.proof.BadStep.{BadStep}
use Rattle.flow_graph.specs.declared.step.Seen.{Seen}
use Rattle.flow_graph.specs.declared.step.Seen.TheVariants.{Edge}
use Rattle.flow_graph.specs.declared.step.Path.{Path}
use Rattle.flow_graph.specs.System.{System}
use Rattle.flow_graph.specs.PathProofs.{ends_with_nobody, first_of, second_of, in_call_at}
use Rattle.flow_graph.specs.PathRules.{is_unmatched_enter}
use Rattle.flow_graph.specs.Walks.{constant_to}
use Rattle.path_checker.specs.Walks.{behind, faults_for}

-- There are steps behind it, the last one first, of which it keeps two and whether a call is open; and what fails first
-- of the steps that are left behind those is what fails first of the whole path.
pub record Walked (sys : System) (lattices : Option (List LatticeView)) (path : Path) (lattice elem : ℕ)
    (see : PathStep → Seen) (one two : Option Seen) (in_call : Bool)
    (rest : List PathStep) (total : Option BadStep) : Type 0 where
  pub before : List Seen
  pub one_is : first_of before ≡ one
  pub two_is : second_of before ≡ two
  pub call_is : in_call_at sys path lattice elem before (map see rest) ≡ in_call
  pub total_is : faults_for sys lattices path lattice elem see before rest ≡ total

-- before a walk's first step no call is open
call_first : (sys : System) (path : Path) (lattice elem from : ℕ) (after : List Seen) →
    in_call_at sys path lattice elem (Edge (constant_to lattice from) ∷ []) after ≡ false
unfolding is_unmatched_enter
call_first sys path lattice elem from after = and_false (not (ends_with_nobody sys (Some from)))

-- what is known before the first step
pub begun : (sys : System) (lattices : Option (List LatticeView)) (path : Path) (lattice elem : ℕ)
    (see : PathStep → Seen) (from : Option ℕ)
    (steps : List PathStep)
    → Walked sys lattices path lattice elem see (first_of (behind lattice from)) None false steps
    (faults_for sys lattices path lattice elem see (behind lattice from) steps)
begun sys lattices path lattice elem see None steps =
    record { before = []; one_is = refl; two_is = refl; call_is = refl; total_is = refl }
begun sys lattices path lattice elem see (Some v) steps = record {
  before = Edge (constant_to lattice v) ∷ [];
  one_is = refl;
  two_is = refl;
  call_is = call_first sys path lattice elem v (map see steps);
  total_is = refl;
}
