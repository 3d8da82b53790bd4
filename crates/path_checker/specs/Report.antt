-- The text of a report: which lines may stand in it, and the path proofs that it says.
use Rattle.std.specs.Prelude.{ℕ, ◌+◌, Bool, true, false, not, ◌==◌, nat_lt, List, [], ◌∷◌, length, Option, Some, None, if◌then◌else◌}
use Rattle.flow_graph.specs.declared.proof.PathStep.{PathStep}
use Rattle.flow_graph.specs.declared.proof.PathStep.TheVariants.{Take as TakeStep, Sub as SubStep}
use Rattle.flow_graph.specs.declared.proof.PathProof.{PathProof}
use Rattle.flow_graph.specs.PathProofs.{steps_of}
use Rattle.path_checker.specs.declared.lines.Line.{Line}
use Rattle.path_checker.specs.declared.lines.Line.TheVariants.{Rejected, Error, Sub, Path, Take, Through}
use Rattle.path_checker.specs.declared.report.Section.{Section}
use Rattle.path_checker.specs.declared.report.Section.TheVariants.{Start, Opened, InError, InSub, InPath}
use Rattle.path_checker.specs.declared.report.ReportFault.{ReportFault}
use Rattle.path_checker.specs.declared.report.ReportFault.TheVariants.{Grammar, NoSuchConstraint}

-- A path proof as lists of steps.
pub record Steps : Type 0 where
  pub subs : List (List PathStep)
  pub main : List PathStep
  pub end : ℕ

-- the lists of steps of a path proof
abbrev pub shape_of : PathProof → Steps
shape_of proof = record { subs = steps_of proof.subs.items; main = proof.main.items; end = proof.end }

-- Which line may stand in a part of a report, and the part that it leads to. A report begins with `rejected`; behind
-- it come errors, each with its sub-paths from 1 on and its main path.
abbrev pub next : Section → Line → Option Section
next Start Rejected = Some Opened
next Opened Error = Some InError
next InError (Sub n) = if n == 1 then Some (InSub 1) else None
next InError Path = Some InPath
next (InSub k) (Sub n) = if n == k + 1 then Some (InSub n) else None
next (InSub k) Path = Some InPath
next (InSub k) (Take n) = Some (InSub k)
next (InSub k) (Through n) = Some (InSub k)
next InPath Error = Some InError
next InPath (Take n) = Some InPath
next InPath (Through n) = Some InPath
next _ _ = None

-- a report ends in the main path of its last error
abbrev pub may_end : Section → Bool
may_end InPath = true
may_end _ = false

-- a step by the number of no constraint
abbrev pub is_unknown : ℕ → Line → Bool
is_unknown edges (Take n) = not (nat_lt n edges)
is_unknown edges _ = false

-- what fails at line n, or else behind it
abbrev pub fault_behind : ℕ → ℕ → Line → Option Section → (Section → Option ReportFault) → Option ReportFault
fault_behind edges n line None behind = Some (Grammar n)
fault_behind edges n line (Some section) behind =
    if is_unknown edges line then Some (NoSuchConstraint n) else behind section

-- The first line that may not stand where it does or that names no constraint, of lines from number n on. Where the end
-- comes too soon, it is the line behind the last.
abbrev pub fault_from : ℕ → Section → ℕ → List Line → Option ReportFault
fault_from edges section n [] = if may_end section then None else Some (Grammar n)
fault_from edges section n (line ∷ lines) =
    fault_behind edges n line (next section line) (λ s. fault_from edges s (n + 1) lines)

-- the first line of a report that fails
abbrev pub report_fault : ℕ → List Line → Option ReportFault
report_fault edges lines = fault_from edges Start 1 lines

-- the steps at the head of lines from number n on
abbrev pub steps_at : ℕ → List Line → List PathStep
steps_at n [] = []
steps_at n (Take edge ∷ lines) = TakeStep edge n ∷ steps_at (n + 1) lines
steps_at n (Through number ∷ lines) = SubStep number n ∷ steps_at (n + 1) lines
steps_at n (_ ∷ lines) = []

-- the sub-paths in front of the next main path: the steps behind each `sub` line
abbrev pub subs_at : ℕ → List Line → List (List PathStep)
subs_at n [] = []
subs_at n (Sub number ∷ lines) = steps_at (n + 1) lines ∷ subs_at (n + 1) lines
subs_at n (Take edge ∷ lines) = subs_at (n + 1) lines
subs_at n (Through number ∷ lines) = subs_at (n + 1) lines
subs_at n (_ ∷ lines) = []

-- the steps behind the next `path` line
abbrev pub main_at : ℕ → List Line → List PathStep
main_at n [] = []
main_at n (Path ∷ lines) = steps_at (n + 1) lines
main_at n (_ ∷ lines) = main_at (n + 1) lines

-- the number of the line behind the steps of the next `path` line
abbrev pub end_at : ℕ → List Line → ℕ
end_at n [] = n
end_at n (Path ∷ lines) = n + 1 + length (steps_at (n + 1) lines)
end_at n (_ ∷ lines) = end_at (n + 1) lines

-- a path proof for each `error` line
abbrev pub proofs_at : ℕ → List Line → List Steps
proofs_at n [] = []
proofs_at n (Error ∷ lines) =
    record { subs = subs_at (n + 1) lines; main = main_at (n + 1) lines; end = end_at (n + 1) lines }
    ∷ proofs_at (n + 1) lines
proofs_at n (_ ∷ lines) = proofs_at (n + 1) lines

-- the path proofs of a whole report
abbrev pub proofs_in : List Line → List Steps
proofs_in lines = proofs_at 1 lines
