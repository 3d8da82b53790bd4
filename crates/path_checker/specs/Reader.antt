-- What a reader of a report holds, and what a line adds to it.
use Rattle.std.specs.Prelude.{◌≡◌, ℕ, ◌+◌, false, Option, Some, List, [], ◌∷◌, ◌++◌, length}
use Rattle.flow_graph.specs.declared.proof.PathStep.{PathStep}
use Rattle.flow_graph.specs.declared.proof.PathStep.TheVariants.{Take as TakeStep, Sub as SubStep}
use Rattle.path_checker.specs.declared.lines.Line.{Line}
use Rattle.path_checker.specs.declared.lines.Line.TheVariants.{Rejected, Error, Sub, Path, Take, Through, Other}
use Rattle.path_checker.specs.declared.report.Section.{Section}
use Rattle.path_checker.specs.declared.report.Section.TheVariants.{Start, Opened, InError, InSub, InPath}
use Rattle.path_checker.specs.declared.report.ReportFault.{ReportFault}
use Rattle.path_checker.specs.Report.{Steps, next, is_unknown, fault_behind, proofs_at, subs_at, main_at, end_at, steps_at}

-- the proofs that are whole, the sub-paths that are whole of the next one, and the steps of its part that is being read
pub record Held : Type 0 where
  pub section : Section
  pub proofs : List Steps
  pub subs : List (List PathStep)
  pub steps : List PathStep

-- a sub-path that was being read is whole
abbrev pub close_sub : Section → Held → Held
close_sub (InSub k) held = record held { subs = held.subs ++ held.steps ∷ []; steps = [] }
close_sub _ held = held

-- a main path that was being read is whole, and its proof too, which ends before line n
abbrev pub close_proof : Section → ℕ → Held → Held
close_proof InPath n held =
    record held
    { proofs = held.proofs ++ record { subs = held.subs; main = held.steps; end = n } ∷ []; subs = []; steps = [] }
close_proof _ n held = held

-- what line n adds
abbrev pub keep_line : ℕ → Line → Held → Held
keep_line n Rejected held = held
keep_line n Error held = close_proof held.section n held
keep_line n (Sub number) held = close_sub held.section held
keep_line n Path held = close_sub held.section held
keep_line n (Take edge) held = record held { steps = held.steps ++ TakeStep edge n ∷ [] }
keep_line n (Through number) held = record held { steps = held.steps ++ SubStep number n ∷ [] }
keep_line n Other held = held

-- The proofs that a reader gives where lines from number n on are left.
abbrev pub goes_on : Section → Held → ℕ → List Line → List Steps
goes_on Start held n lines = held.proofs ++ proofs_at n lines
goes_on Opened held n lines = held.proofs ++ proofs_at n lines
goes_on InError held n lines =
    held.proofs ++ record { subs = held.subs ++ subs_at n lines; main = main_at n lines; end = end_at n lines }
    ∷ proofs_at n lines
goes_on (InSub k) held n lines =
    held.proofs
    ++ record {
      subs = held.subs ++ (held.steps ++ steps_at n lines) ∷ subs_at n lines;
      main = main_at n lines;
      end = end_at n lines;
    } ∷ proofs_at n lines
goes_on InPath held n lines =
    held.proofs
    ++ record { subs = held.subs; main = held.steps ++ steps_at n lines; end = n + length (steps_at n lines) }
    ∷ proofs_at n lines

-- no part is held where none is being read
abbrev pub IsClear : Section → Held → Type 0
IsClear (InSub k) held = Unit {0}
IsClear InPath held = Unit {0}
IsClear _ held = (held.subs ≡ []) × (held.steps ≡ [])

-- the line may stand behind what was read and names a constraint, and is kept
pub record Takes (edges n : ℕ) (line : Line) (old new : Held) : Type 0 where
  pub follows : next old.section line ≡ Some new.section
  pub known : is_unknown edges line ≡ false
  pub keeps : new ≡ record (keep_line n line old) { section = new.section }

-- line n is the first that fails, whatever stands behind it
abbrev pub FailsAt : ℕ → Section → ℕ → Line → ReportFault → Type 0
FailsAt edges section n line fault =
    (behind : Section → Option ReportFault) → fault_behind edges n line (next section line) behind ≡ Some fault
