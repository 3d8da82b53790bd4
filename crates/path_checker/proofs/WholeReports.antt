-- No line of a report fails, and lines of which none fails are those of a report.
use Rattle.std.proofs.Common.{◌≡◌, ℕ, ◌+◌, ◌<◌, ◌==◌, Bool, true, false, not, nat_lt, List, [], ◌∷◌, Option, Some, None, refl, sym, ◌∙◌, ap, subst, arith, cond}
use Rattle.path_checker.specs.declared.lines.Line.{Line}
use Rattle.path_checker.specs.declared.lines.Line.TheVariants.{Rejected, Error, Sub, Path, Take, Through, Other}
use Rattle.path_checker.specs.declared.report.Section.{Section}
use Rattle.path_checker.specs.declared.report.Section.TheVariants.{Start, Opened, InError, InSub, InPath}
use Rattle.path_checker.specs.declared.report.ReportFault.{ReportFault}
use Rattle.path_checker.specs.declared.report.ReportFault.TheVariants.{NoSuchConstraint}
use Rattle.path_checker.specs.Report.{next, fault_from, fault_behind, report_fault}
use Rattle.path_checker.specs.Grammar.{Written, by_constraint, by_sub_path, WrittenError, step_lines, sub_lines, error_lines, AreNamed, SubsAreNamed, ErrorsAreNamed, IsReport}

-- of lines that stand in a section none fails, whatever their numbers
abbrev Passes : ℕ → Section → List Line → Type 0
Passes edges section lines = (n : ℕ) → fault_from edges section n lines ≡ None

known : (edges m : ℕ) → m < edges → not (nat_lt m edges) ≡ false
known edges m below = grind arith

module _ (edges : ℕ) where
  -- a section in which steps may stand
  steps_pass : (section : Section) → ((m : ℕ) → next section (Take m) ≡ Some section)
      → ((m : ℕ) → next section (Through m) ≡ Some section) →
      (steps : List Written) (behind : List Line) → AreNamed edges steps → Passes edges section behind
      → Passes edges section (step_lines steps behind)
  steps_pass section takes goes [] behind named passes n = passes n
  steps_pass section takes goes (by_constraint m ∷ steps) behind named passes n =
      rw (takes m, known edges m named.0) (steps_pass section takes goes steps behind named.1 passes (n + 1))
  steps_pass section takes goes (by_sub_path m ∷ steps) behind named passes n =
      rw (goes m) (steps_pass section takes goes steps behind named passes (n + 1))

  subs_pass : (section : Section) (j : ℕ) → next section (Sub j) ≡ Some (InSub j) → next section Path ≡ Some InPath →
      (subs : List (List Written)) (behind : List Line) → SubsAreNamed edges subs → Passes edges InPath behind
      → Passes edges section (sub_lines j subs (Path ∷ behind))
  subs_pass section j opens ends [] behind named passes n = rw ends (passes (n + 1))
  subs_pass section j opens ends (steps ∷ subs) behind named passes n =
      rw opens
      (steps_pass (InSub j) (λ m. refl) (λ m. refl) steps (sub_lines (j + 1) subs (Path ∷ behind)) named.0
      (subs_pass (InSub j) (j + 1)
      (let same : (j + 1 == j + 1) ≡ true = grind arith in rw same refl) refl subs behind named.1 passes) (n + 1))

  errors_pass : (errors : List WrittenError) → ErrorsAreNamed edges errors → Passes edges InPath (error_lines errors)
  errors_pass [] named n = refl
  errors_pass (e ∷ errors) named n =
      subs_pass InError 1 refl refl e.subs (step_lines e.main (error_lines errors)) named.0
      (steps_pass InPath (λ m. refl) (λ m. refl) e.main (error_lines errors) named.1
      (errors_pass errors named.2)) (n + 1)

  pub report_passes : (lines : List Line) → IsReport edges lines → report_fault edges lines ≡ None
  report_passes lines is =
      let e = is.first in
      rw is.lines_are
      (subs_pass InError 1 refl refl e.subs (step_lines e.main (error_lines is.others)) is.named.0
      (steps_pass InPath (λ m. refl) (λ m. refl) e.main (error_lines is.others) is.named.1
      (errors_pass is.others is.named.2)) 3)

  -- what is left of a report in a section
  pub record PathLeft (lines : List Line) : Type 0 where
    pub steps : List Written
    pub errors : List WrittenError
    pub lines_are : lines ≡ step_lines steps (error_lines errors)
    pub steps_named : AreNamed edges steps
    pub errors_named : ErrorsAreNamed edges errors

  pub record SubsLeft (j : ℕ) (lines : List Line) : Type 0 where
    pub subs : List (List Written)
    pub behind : List Line
    pub lines_are : lines ≡ sub_lines j subs (Path ∷ behind)
    pub subs_named : SubsAreNamed edges subs
    pub left : PathLeft behind

  pub record SubLeft (j : ℕ) (lines : List Line) : Type 0 where
    pub steps : List Written
    pub behind : List Line
    pub lines_are : lines ≡ step_lines steps behind
    pub steps_named : AreNamed edges steps
    pub left : SubsLeft (j + 1) behind

  abbrev Left : Section → List Line → Type 0
  Left Start lines = IsReport edges lines
  Left Opened lines =
      (e : WrittenError) × (errors : List WrittenError) × (lines ≡ error_lines (e ∷ errors))
      × ErrorsAreNamed edges (e ∷ errors)
  Left InError lines = SubsLeft 1 lines
  Left (InSub j) lines = SubLeft j lines
  Left InPath lines = PathLeft lines

  error_left : (lines : List Line) → SubsLeft 1 lines →
      (e : WrittenError) × (errors : List WrittenError) × (Error ∷ lines ≡ error_lines (e ∷ errors))
      × ErrorsAreNamed edges (e ∷ errors)
  error_left lines left = (
    record { subs = left.subs; main = left.left.steps },
    left.left.errors,
    ap (λ ls. Error ∷ ls) (left.lines_are ∙ ap (λ ls. sub_lines 1 left.subs (Path ∷ ls)) left.left.lines_are),
    (left.subs_named, left.left.steps_named, left.left.errors_named),
  )

  sub_opens : (j m : ℕ) (lines : List Line) → m ≡ j → SubLeft m lines → SubsLeft j (Sub m ∷ lines)
  sub_opens j m lines same left =
      let here : SubsLeft m (Sub m ∷ lines) = record {
        subs = left.steps ∷ left.left.subs;
        behind = left.left.behind;
        lines_are = ap (λ ls. Sub m ∷ ls) (left.lines_are ∙ ap (step_lines left.steps) left.left.lines_are);
        subs_named = (left.steps_named, left.left.subs_named);
        left = left.left.left;
      } in
      subst (λ (k : ℕ). SubsLeft k (Sub m ∷ lines)) same here

  sub_goes_on : (j : ℕ) (lines : List Line) (line : Line) (step : Written)
      → ((steps : List Written) (behind : List Line)
      → step_lines (step ∷ steps) behind ≡ line ∷ step_lines steps behind) →
      ((steps : List Written) → AreNamed edges steps → AreNamed edges (step ∷ steps)) → SubLeft j lines
      → SubLeft j (line ∷ lines)
  sub_goes_on j lines line step is named left = record {
    steps = step ∷ left.steps;
    behind = left.behind;
    lines_are = ap (λ ls. line ∷ ls) left.lines_are ∙ sym (is left.steps left.behind);
    steps_named = named left.steps left.steps_named;
    left = left.left;
  }

  path_goes_on : (lines : List Line) (line : Line) (step : Written)
      → ((steps : List Written) (behind : List Line)
      → step_lines (step ∷ steps) behind ≡ line ∷ step_lines steps behind) →
      ((steps : List Written) → AreNamed edges steps → AreNamed edges (step ∷ steps)) → PathLeft lines
      → PathLeft (line ∷ lines)
  path_goes_on lines line step is named left = record {
    steps = step ∷ left.steps;
    errors = left.errors;
    lines_are = ap (λ ls. line ∷ ls) left.lines_are ∙ sym (is left.steps (error_lines left.errors));
    steps_named = named left.steps left.steps_named;
    errors_named = left.errors_named;
  }

  -- a sub-path's line stands where its number is the next one
  by_number : {A : Type 0} → (k m n : ℕ) (section : Section) (behind : Section → Option ReportFault) (b : Bool)
      → (m == k) ≡ b →
      fault_behind edges n (Sub m) (cond b (Some section) None) behind ≡ None → (m ≡ k → behind section ≡ None → A) → A
  by_number k m n section behind true same h then_ = then_ (grind (arith, same)) h
  by_number k m n section behind false same h then_ = absurd cc

  -- a step that does not fail names a constraint
  by_name : {A : Type 0} → (m n : ℕ) (rest : Option ReportFault) (b : Bool) → not (nat_lt m edges) ≡ b
      → cond b (Some (NoSuchConstraint n)) rest ≡ None →
      (m < edges → rest ≡ None → A) → A
  by_name m n rest true unknown h then_ = absurd cc
  by_name m n rest false is_known h then_ = then_ (grind (arith, is_known)) h

  left_of : (lines : List Line) (section : Section) (n : ℕ) → fault_from edges section n lines ≡ None
      → Left section lines
  left_of [] Start n h = absurd cc
  left_of [] Opened n h = absurd cc
  left_of [] InError n h = absurd cc
  left_of [] (InSub j) n h = absurd cc
  left_of [] InPath n h = record { steps = []; errors = []; lines_are = refl; steps_named = tt; errors_named = tt }
  left_of (Rejected ∷ lines) Start n h =
      let left = left_of lines Opened (n + 1) h in
      record { first = left.0; others = left.1; lines_are = ap (λ ls. Rejected ∷ ls) left.2; named = left.3 }
  left_of (Error ∷ lines) Opened n h = error_left lines (left_of lines InError (n + 1) h)
  left_of (Sub m ∷ lines) InError n h =
      by_number 1 m n (InSub 1) (λ s. fault_from edges s (n + 1) lines) (m == 1) refl h
      (λ same passes.
      sub_opens 1 m lines same (subst (λ (k : ℕ). SubLeft k lines) (sym same) (left_of lines (InSub 1) (n + 1) passes)))
  left_of (Path ∷ lines) InError n h =
      record { subs = []; behind = lines; lines_are = refl; subs_named = tt; left = left_of lines InPath (n + 1) h }
  left_of (Sub m ∷ lines) (InSub j) n h =
      by_number (j + 1) m n (InSub m) (λ s. fault_from edges s (n + 1) lines) (m == j + 1) refl h
      (λ same passes. record {
        steps = [];
        behind = Sub m ∷ lines;
        lines_are = refl;
        steps_named = tt;
        left = sub_opens (j + 1) m lines same (left_of lines (InSub m) (n + 1) passes);
      })
  left_of (Path ∷ lines) (InSub j) n h = record {
    steps = [];
    behind = Path ∷ lines;
    lines_are = refl;
    steps_named = tt;
    left =
        record { subs = []; behind = lines; lines_are = refl; subs_named = tt; left = left_of lines InPath (n + 1) h };
  }
  left_of (Take m ∷ lines) (InSub j) n h =
      by_name m n (fault_from edges (InSub j) (n + 1) lines) (not (nat_lt m edges)) refl h
      (λ below passes. sub_goes_on j lines (Take m) (by_constraint m) (λ steps behind. refl)
      (λ steps named. (below, named)) (left_of lines (InSub j) (n + 1) passes))
  left_of (Through m ∷ lines) (InSub j) n h =
      sub_goes_on j lines (Through m) (by_sub_path m) (λ steps behind. refl) (λ steps named. named)
      (left_of lines (InSub j) (n + 1) h)
  left_of (Error ∷ lines) InPath n h =
      let left = error_left lines (left_of lines InError (n + 1) h) in
      record { steps = []; errors = left.0 ∷ left.1; lines_are = left.2; steps_named = tt; errors_named = left.3 }
  left_of (Take m ∷ lines) InPath n h =
      by_name m n (fault_from edges InPath (n + 1) lines) (not (nat_lt m edges)) refl h
      (λ below passes. path_goes_on lines (Take m) (by_constraint m) (λ steps behind. refl)
      (λ steps named. (below, named)) (left_of lines InPath (n + 1) passes))
  left_of (Through m ∷ lines) InPath n h =
      path_goes_on lines (Through m) (by_sub_path m) (λ steps behind. refl) (λ steps named. named)
      (left_of lines InPath (n + 1) h)
  left_of (Error ∷ lines) Start n h = absurd cc
  left_of (Sub m ∷ lines) Start n h = absurd cc
  left_of (Path ∷ lines) Start n h = absurd cc
  left_of (Take m ∷ lines) Start n h = absurd cc
  left_of (Through m ∷ lines) Start n h = absurd cc
  left_of (Other ∷ lines) Start n h = absurd cc
  left_of (Rejected ∷ lines) Opened n h = absurd cc
  left_of (Sub m ∷ lines) Opened n h = absurd cc
  left_of (Path ∷ lines) Opened n h = absurd cc
  left_of (Take m ∷ lines) Opened n h = absurd cc
  left_of (Through m ∷ lines) Opened n h = absurd cc
  left_of (Other ∷ lines) Opened n h = absurd cc
  left_of (Rejected ∷ lines) InError n h = absurd cc
  left_of (Error ∷ lines) InError n h = absurd cc
  left_of (Take m ∷ lines) InError n h = absurd cc
  left_of (Through m ∷ lines) InError n h = absurd cc
  left_of (Other ∷ lines) InError n h = absurd cc
  left_of (Rejected ∷ lines) (InSub j) n h = absurd cc
  left_of (Error ∷ lines) (InSub j) n h = absurd cc
  left_of (Other ∷ lines) (InSub j) n h = absurd cc
  left_of (Rejected ∷ lines) InPath n h = absurd cc
  left_of (Sub m ∷ lines) InPath n h = absurd cc
  left_of (Path ∷ lines) InPath n h = absurd cc
  left_of (Other ∷ lines) InPath n h = absurd cc

  pub passing_is_report : (lines : List Line) → report_fault edges lines ≡ None → IsReport edges lines
  passing_is_report lines passes = left_of lines Start 1 passes
