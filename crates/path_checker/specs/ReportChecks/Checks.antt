-- What a report comes to.
use Rattle.std.specs.Prelude.{◌≡◌, ℕ, List, ◌∷◌, ◌++◌, length, Option, Some, None, All}
use Rattle.lattice_core.specs.Order.{Order}
use Rattle.flow_graph.specs.declared.proof.BadStep.{BadStep}
use Rattle.flow_graph.specs.System.{System, IsWellOwned}
use Rattle.flow_graph.specs.Unfolding.{NamesElements, IsAccepted}
use Rattle.flow_graph.specs.PathProofs.{first_fault}
use Rattle.path_checker.specs.declared.report.ReportFault.{ReportFault}
use Rattle.path_checker.specs.declared.report.ReportFault.TheVariants.{Grammar, NoSuchConstraint, NoMemory}
use Rattle.path_checker.specs.Lines.{lines_of}
use Rattle.path_checker.specs.Report.{Steps, proofs_in}
use Rattle.path_checker.specs.Grammar.{IsReport, IsMisfit, NamesNothing}
use Rattle.path_checker.specs.declared.report_checks.judging.Checked.{Checked}
use Rattle.path_checker.specs.declared.report_checks.judging.Checked.TheVariants.{Hold, Bad}
use Rattle.path_checker.specs.declared.report_checks.judging.Code.{Code}
use Rattle.path_checker.specs.declared.report_checks.judging.Code.TheVariants.{K1, K2, Rule}

-- no step of a path proof fails, and none is missing at its end
abbrev pub StepsHold : System → List Order → Steps → Type 0
StepsHold sys orders proof = first_fault sys orders proof.subs proof.main proof.end ≡ None

-- of path proofs in order the first that fails, and its first step that does
pub record FailsFirst (sys : System) (orders : List Order) (proofs : List Steps) (bad : BadStep) : Type 0 where
  pub before : List Steps
  pub proof : Steps
  pub behind : List Steps
  pub parts : proofs ≡ before ++ proof ∷ behind
  pub hold : All (StepsHold sys orders) before
  pub fails : first_fault sys orders proof.subs proof.main proof.end ≡ Some bad

-- What is wrong at a line of a report: it does not fit there, it names no constraint, or the report reads and the first
-- step that fails of the first proof that does stands there and fails this rule.
abbrev pub IsBad : System → List Order → List ℕ → ℕ → Code → Type 0
IsBad sys orders text line K1 = IsMisfit (length sys.constraints) (lines_of text) line
IsBad sys orders text line K2 = NamesNothing (length sys.constraints) (lines_of text) line
IsBad sys orders text line (Rule why) =
    IsReport (length sys.constraints) (lines_of text)
    × FailsFirst sys orders (proofs_in (lines_of text)) (record { line = line; why = why })

-- What a text comes to as a report over a system: its paths hold where it reads and all its proofs hold, and else
-- something is wrong at a line.
abbrev pub ComesTo : System → List Order → List ℕ → Checked → Type 0
ComesTo sys orders text Hold = IsReport (length sys.constraints) (lines_of text) × All (StepsHold sys orders) (proofs_in (lines_of text))
ComesTo sys orders text (Bad line code) = IsBad sys orders text line code

-- what a report that does not read comes to
abbrev pub bad_of : ReportFault → Option Checked
bad_of (Grammar line) = Some (Bad line K1)
bad_of (NoSuchConstraint line) = Some (Bad line K2)
bad_of NoMemory = None

-- Where the system is well owned and its constants and bounds name elements, it is not accepted.
abbrev pub Refutes : System → List Order → Type 0
Refutes sys orders = IsWellOwned sys → NamesElements sys orders → IsAccepted sys orders → ⊥
