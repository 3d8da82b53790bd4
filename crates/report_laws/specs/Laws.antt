-- What the text of a rejected report reads as.
use Rattle.std.specs.Prelude.{◌≡◌, ℕ, ◌-◌, ◌^◌, ◌<◌, ◌≤◌, List, [], ◌∷◌, ◌++◌, length, map, All}
use Rattle.lattice_core.specs.Order.{Order}
use Rattle.lattice_core.specs.View.{orders_of, AreLattices}
use Rattle.flow_graph.specs.declared.proof.PathStep.{PathStep}
use Rattle.flow_graph.specs.declared.proof.PathStep.TheVariants.{Take, Sub}
use Rattle.flow_graph.specs.System.{System, IsWellOwned, most_constraints}
use Rattle.path_checker.specs.declared.lines.Line.TheVariants.{Rejected}
use Rattle.path_checker.specs.Lines.{lines_of}
use Rattle.path_checker.specs.Report.{Steps, proofs_in}
use Rattle.path_checker.specs.Grammar.{Written, by_constraint, by_sub_path, WrittenError, error_lines, IsReport}
use Rattle.path_checker.specs.declared.report_checks.judging.Checked.TheVariants.{Hold}
use Rattle.path_checker.specs.ReportChecks.Checks.{StepsHold, ComesTo}
use Rattle.annotate.specs.Texts.{Scene}
use Rattle.annotate.specs.Reports.{IsErrorOf, NotExceeded, Exceeded, Errors, NoConstraint, NextError, IsRejectedReport}
use Rattle.annotate.specs.Solutions.{AllNamed}
use Rattle.report_laws.specs.Scenes.{HasNoFeeds}

-- a step, its line number aside
abbrev pub written : PathStep → Written
written (Take edge line) = by_constraint edge
written (Sub number line) = by_sub_path number

-- sub-paths and a main path, line numbers aside
abbrev pub written_error : List (List PathStep) → List PathStep → WrittenError
written_error subs main = record { subs = map (map written) subs; main = map written main }

-- a path proof, line numbers aside
abbrev pub written_proof : Steps → WrittenError
written_proof proof = written_error proof.subs proof.main

-- the path proof of one constraint's error, if it is exceeded
abbrev pub error_of : {scene : Scene} {sys : System} {number : ℕ} {text : List ℕ} → IsErrorOf scene sys number text
    → List WrittenError
error_of (NotExceeded kept) = []
error_of (Exceeded error over is) = written_error is.subs is.main ∷ []

-- the path proofs of the errors of a report, in order
abbrev pub errors_of : {scene : Scene} {sys : System} {number : ℕ} {text : List ℕ} → Errors scene sys number text
    → List WrittenError
errors_of NoConstraint = []
errors_of (NextError number text error before is) = errors_of before ++ error_of is

-- The lines of errors are read as these errors.
abbrev pub ErrorsReadBack : Type 0
ErrorsReadBack = (errors : List WrittenError) → map written_proof (proofs_in (Rejected ∷ error_lines errors)) ≡ errors

-- Whether a path proof holds does not depend on its line numbers.
abbrev pub HoldsWithoutLines : Type 0
HoldsWithoutLines =
    (sys : System) (orders : List Order) (one other : Steps) → written_proof one ≡ written_proof other
    → StepsHold sys orders one → StepsHold sys orders other

-- A text reads as a report of these errors, line numbers aside. Each of the proofs that are read holds, so that the
-- text comes to that.
pub record ReadsBack (sys : System) (orders : List Order) (text : List ℕ) (errors : List WrittenError) : Type 0 where
  pub reads : IsReport (length sys.constraints) (lines_of text)
  pub proofs : map written_proof (proofs_in (lines_of text)) ≡ errors
  pub hold : All (StepsHold sys orders) (proofs_in (lines_of text))
  pub comes : ComesTo sys orders text Hold

-- The text of a rejected report of a well owned system within its limits, whose constants and bounds name elements of
-- its lattices, reads back as its errors, where no line feed is in what its lines name and it is short enough to be
-- read.
abbrev pub RejectedReadsBack : Type 0
RejectedReadsBack =
    (scene : Scene) (sys : System) (text : List ℕ) → HasNoFeeds scene → AreLattices scene.lattices
    → AllNamed scene.lattices sys → IsWellOwned sys →
    length sys.constraints ≤ most_constraints → length text < 2 ^ 32 - 1 → (report : IsRejectedReport scene sys text) →
    ReadsBack sys (orders_of scene.lattices) text (errors_of report.listed)
