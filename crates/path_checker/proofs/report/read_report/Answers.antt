use Rattle.std.proofs.Common.{◌≡◌, ℕ, List, subst, sym, Option, Some, None, Result, Ok, Err, IfErr, OnErr, inl, inr, ◌⊎◌, ap}
use Rattle.std.proofs.lemmas.Result.{on_ok_weaker}
use Rattle.path_checker.specs.declared.report.ReportFault.{ReportFault}
use Rattle.path_checker.specs.declared.report.ReportFault.TheVariants.{NoMemory}
use Rattle.path_checker.specs.Lines.{lines_of}
use Rattle.path_checker.specs.Report.{report_fault}
use Rattle.path_checker.specs.Grammar.{IsPlaced}
use Rattle.path_checker.specs.declared.lines.Line.{Line}
use Rattle.path_checker.proofs.Placed.{fault_is_placed}
use Rattle.path_checker.proofs.WholeReports.{report_passes, passing_is_report}
use Rattle.path_checker.proofs.report.read_report.Goals as goal

-- where no line fails, only want of memory is left
only_memory : {A : Type 0} → (r : Result A ReportFault) (first : Option ReportFault) → first ≡ None
    → IfErr r (λ e. (e ≡ NoMemory) ⊎ (first ≡ Some e)) →
    OnErr r (r ≡ Err NoMemory)
only_memory (Ok x) first none h = tt
only_memory (Err e) first none (inl is) = ap Err is
only_memory (Err e) first none (inr is) = absurd cc

-- each fault stands at its place
faults_placed : {A : Type 0} → (edges : ℕ) (lines : List Line) (r : Result A ReportFault)
    → IfErr r (λ e. (e ≡ NoMemory) ⊎ (report_fault edges lines ≡ Some e)) →
    IfErr r (IsPlaced edges lines)
faults_placed edges lines (Ok x) h = tt
faults_placed edges lines (Err e) (inl is) = subst (λ (f : ReportFault). IsPlaced edges lines f) (sym is) tt
faults_placed edges lines (Err e) (inr is) = fault_is_placed edges lines e is

pub returns-clause-reads : goal.returns-clause-reads
returns-clause-reads c =
    on_ok_weaker c.read_lines.result
    (passing_is_report c.args.edges (lines_of c.args.bytes.now)) c.read_lines.ensures.passes

-- where the lines are a report, only want of memory is a failure
pub returns-clause-each : goal.returns-clause-each
returns-clause-each c is =
    only_memory c.read_lines.result (report_fault c.args.edges (lines_of c.args.bytes.now))
    (report_passes c.args.edges (lines_of c.args.bytes.now) is) c.read_lines.ensures.fault

pub returns-clause-place : goal.returns-clause-place
returns-clause-place c =
    faults_placed c.args.edges (lines_of c.args.bytes.now) c.read_lines.result c.read_lines.ensures.fault
