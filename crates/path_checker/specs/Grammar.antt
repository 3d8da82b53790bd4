-- The lines of whole reports.
use Rattle.std.specs.Prelude.{◌≡◌, ℕ, suc, ◌+◌, ◌<◌, ◌≤◌, List, [], ◌∷◌, ◌++◌, length, take, slice_get, Some}
use Rattle.path_checker.specs.declared.lines.Line.{Line}
use Rattle.path_checker.specs.declared.report.ReportFault.{ReportFault}
use Rattle.path_checker.specs.declared.report.ReportFault.TheVariants.{Grammar, NoSuchConstraint, NoMemory}
use Rattle.path_checker.specs.declared.lines.Line.TheVariants.{Rejected, Error, Sub, Path, Take, Through}

-- a step as it is written: by the number of a constraint, or of a sub-path
pub data Written : Type 0 where
  by_constraint : ℕ → Written
  by_sub_path : ℕ → Written

-- the sub-paths and the main path of an error
pub record WrittenError : Type 0 where
  pub subs : List (List Written)
  pub main : List Written

-- the lines of steps, and those that stand behind them
abbrev pub step_lines : List Written → List Line → List Line
step_lines [] behind = behind
step_lines (by_constraint n ∷ steps) behind = Take n ∷ step_lines steps behind
step_lines (by_sub_path n ∷ steps) behind = Through n ∷ step_lines steps behind

-- sub-paths from a number on
abbrev pub sub_lines : ℕ → List (List Written) → List Line → List Line
sub_lines n [] behind = behind
sub_lines n (steps ∷ subs) behind = Sub n ∷ step_lines steps (sub_lines (n + 1) subs behind)

-- the lines of errors, each with its sub-paths and its main path
abbrev pub error_lines : List WrittenError → List Line
error_lines [] = []
error_lines (e ∷ errors) = Error ∷ sub_lines 1 e.subs (Path ∷ step_lines e.main (error_lines errors))

-- each step by a constraint has the number of one
abbrev pub AreNamed : ℕ → List Written → Type 0
AreNamed edges [] = Unit {0}
AreNamed edges (by_constraint n ∷ steps) = (n < edges) × AreNamed edges steps
AreNamed edges (by_sub_path n ∷ steps) = AreNamed edges steps

-- each step of these sub-paths by a constraint has the number of one
abbrev pub SubsAreNamed : ℕ → List (List Written) → Type 0
SubsAreNamed edges [] = Unit {0}
SubsAreNamed edges (steps ∷ subs) = AreNamed edges steps × SubsAreNamed edges subs

-- each step of these errors by a constraint has the number of one
abbrev pub ErrorsAreNamed : ℕ → List WrittenError → Type 0
ErrorsAreNamed edges [] = Unit {0}
ErrorsAreNamed edges (e ∷ errors) = SubsAreNamed edges e.subs × AreNamed edges e.main × ErrorsAreNamed edges errors

-- The lines are `rejected` and then those of one or more errors, whose steps name constraints.
pub record IsReport (edges : ℕ) (lines : List Line) : Type 0 where
  pub first : WrittenError
  pub others : List WrittenError
  pub lines_are : lines ≡ Rejected ∷ error_lines (first ∷ others)
  pub named : ErrorsAreNamed edges (first ∷ others)

-- lines that others, put behind them, make a report
abbrev pub BeginsReport : ℕ → List Line → Type 0
BeginsReport edges lines = (behind : List Line) × IsReport edges (lines ++ behind)

-- Line n is the first that does not fit: the lines before it begin a report. No report begins with it too, whatever the
-- constraints are, or it is the line behind the last one and the lines are not yet a report.
pub record IsMisfit (edges : ℕ) (lines : List Line) (n : ℕ) : Type 0 where
  pub before : ℕ
  pub number : n ≡ before + 1
  pub within : before ≤ length lines
  pub begins : BeginsReport edges (take before lines)
  pub misfit : before < length lines → (others : ℕ) → BeginsReport others (take (suc before) lines) → ⊥
  pub unfinished : before ≡ length lines → IsReport edges lines → ⊥

-- Line n is the first that names no constraint: the lines before it begin a report, and with it too, were there enough
-- constraints.
pub record NamesNothing (edges : ℕ) (lines : List Line) (n : ℕ) : Type 0 where
  pub before : ℕ
  pub number : n ≡ before + 1
  pub begins : BeginsReport edges (take before lines)
  pub constraint : ℕ
  pub line_is : slice_get lines before ≡ Some (Take constraint)
  pub past : edges ≤ constraint
  pub fits : BeginsReport (suc constraint) (take (suc before) lines)

-- a fault is at the line where it should be; want of memory has none
abbrev pub IsPlaced : ℕ → List Line → ReportFault → Type 0
IsPlaced edges lines (Grammar n) = IsMisfit edges lines n
IsPlaced edges lines (NoSuchConstraint n) = NamesNothing edges lines n
IsPlaced edges lines NoMemory = Unit {0}
