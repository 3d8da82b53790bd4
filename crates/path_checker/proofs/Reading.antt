-- What a reader of a report keeps true from line to line.
use Rattle.std.proofs.Common.{◌≡◌, ℕ, suc, ◌+◌, ◌==◌, Bool, true, false, List, [], ◌∷◌, length, Option, Some, None, refl, sym, ◌∙◌, ap, subst, arith, append_assoc, append-nil, cond, inl, inr, ◌⊎◌, if◌then◌else◌, add-zero}
use Rattle.flow_graph.specs.declared.proof.PathStep.{PathStep}
use Rattle.path_checker.specs.declared.lines.Line.{Line}
use Rattle.path_checker.specs.declared.lines.Line.TheVariants.{Rejected, Error, Sub, Path, Take, Through, Other}
use Rattle.path_checker.specs.declared.report.Section.{Section}
use Rattle.path_checker.specs.declared.report.Section.TheVariants.{Start, Opened, InError, InSub, InPath}
use Rattle.path_checker.specs.declared.report.ReportFault.{ReportFault}
use Rattle.path_checker.specs.declared.report.ReportFault.TheVariants.{NoSuchConstraint, NoMemory}
use Rattle.path_checker.specs.Report.{Steps, next, is_unknown, fault_behind, fault_from, report_fault, proofs_in, steps_at}
use Rattle.std.specs.List.{slice_split}
use Rattle.std.specs.Str.{bytes_eq}
use Rattle.path_checker.specs.Lines.{lines_of, lines_in, line_kind}
use Rattle.path_checker.proofs.Splits.{split_parts}
use Rattle.path_checker.specs.Reader.{Held, keep_line, goes_on, IsClear, Takes, FailsAt}

-- a line that may stand there leaves the proofs that will be given as they are
abbrev Turns : Section → Line → Held → ℕ → List Line → Option Section → Type 0
Turns section line held n lines None = Unit {0}
Turns section line held n lines (Some to) =
    (goes_on to (keep_line n line held) (n + 1) lines ≡ goes_on section held n (line ∷ lines))
    × IsClear to (keep_line n line held)

past : (n m : ℕ) → n + 1 + m ≡ n + suc m
past n m = omega arith

-- a line that may stand in a section leaves the proofs as they will be, in each section
turns : (section : Section) (line : Line) (p : List Steps) (ss : List (List PathStep)) (st : List PathStep) (n : ℕ)
    (lines : List Line) →
    let held : Held = record { section = section; proofs = p; subs = ss; steps = st } in
    IsClear section held → Turns section line held n lines (next section line)
turns Start Rejected p ss st n lines clear = (refl, clear)
turns Opened Error p ss st n lines clear = (rw clear.0 refl, clear)
turns InError (Sub m) p ss st n lines clear =
    elim (m == 1) as (λ b. Turns InError (Sub m)
    (record { section = InError; proofs = p; subs = ss; steps = st }) n lines (cond b (Some (InSub 1)) None))
    [ true ↦ (rw clear.1 refl, tt) | false ↦ tt ]
turns InError Path p ss st n lines clear = (rw (clear.0, clear.1) refl, tt)
turns (InSub k) (Sub m) p ss st n lines clear =
    elim (m == k + 1) as (λ b. Turns (InSub k) (Sub m)
    (record { section = InSub k; proofs = p; subs = ss; steps = st }) n lines (cond b (Some (InSub m)) None))
    [ true ↦ (simp (append_assoc, append-nil), tt) | false ↦ tt ]
turns (InSub k) Path p ss st n lines clear = (simp append-nil, tt)
turns (InSub k) (Take e) p ss st n lines clear = (simp append_assoc, tt)
turns (InSub k) (Through m) p ss st n lines clear = (simp append_assoc, tt)
turns InPath Error p ss st n lines clear = (simp (append_assoc, append-nil, add-zero), (refl, refl))
turns InPath (Take e) p ss st n lines clear =
    (simp append_assoc (rw (past n (length (steps_at (n + 1) lines))) refl), tt)
turns InPath (Through m) p ss st n lines clear =
    (simp append_assoc (rw (past n (length (steps_at (n + 1) lines))) refl), tt)
turns Start Error p ss st n lines clear = tt
turns Start (Sub m) p ss st n lines clear = tt
turns Start Path p ss st n lines clear = tt
turns Start (Take m) p ss st n lines clear = tt
turns Start (Through m) p ss st n lines clear = tt
turns Start Other p ss st n lines clear = tt
turns Opened Rejected p ss st n lines clear = tt
turns Opened (Sub m) p ss st n lines clear = tt
turns Opened Path p ss st n lines clear = tt
turns Opened (Take m) p ss st n lines clear = tt
turns Opened (Through m) p ss st n lines clear = tt
turns Opened Other p ss st n lines clear = tt
turns InError Rejected p ss st n lines clear = tt
turns InError Error p ss st n lines clear = tt
turns InError (Take m) p ss st n lines clear = tt
turns InError (Through m) p ss st n lines clear = tt
turns InError Other p ss st n lines clear = tt
turns (InSub k) Rejected p ss st n lines clear = tt
turns (InSub k) Error p ss st n lines clear = tt
turns (InSub k) Other p ss st n lines clear = tt
turns InPath Rejected p ss st n lines clear = tt
turns InPath (Sub m) p ss st n lines clear = tt
turns InPath Path p ss st n lines clear = tt
turns InPath Other p ss st n lines clear = tt

-- where a reader stands is no part of what it holds
cleared : (to : Section) (held : Held) → IsClear to held → IsClear to (record held { section = to })
cleared Start held clear = clear
cleared Opened held clear = clear
cleared InError held clear = clear
cleared (InSub k) held clear = tt
cleared InPath held clear = tt

-- the proofs that will be given do not depend on the section that is held
moved : (to : Section) (held : Held) (n : ℕ) (lines : List Line)
    → goes_on to (record held { section = to }) n lines ≡ goes_on to held n lines
moved Start held n lines = refl
moved Opened held n lines = refl
moved InError held n lines = refl
moved (InSub k) held n lines = refl
moved InPath held n lines = refl

-- The reader has taken the lines in front of number n: what fails and what is proved behind them is so of the whole
-- text.
pub record Stands (edges : ℕ) (all : List Line) (held : Held) (n : ℕ) (lines : List Line) : Type 0 where
  pub clear : IsClear held.section held
  pub fault_is : fault_from edges held.section n lines ≡ report_fault edges all
  pub proofs_is : goes_on held.section held n lines ≡ proofs_in all

-- one more line
pub stands_behind : (edges : ℕ) (all : List Line) (held : Held) (n : ℕ) (line : Line) (lines : List Line)
    (to : Section) →
    Stands edges all held n (line ∷ lines) → next held.section line ≡ Some to → is_unknown edges line ≡ false →
    Stands edges all (record (keep_line n line held) { section = to }) (n + 1) lines
stands_behind edges all held n line lines to stands follows known =
    let turn : Turns held.section line held n lines (Some to) =
    subst (λ (o : Option Section). Turns held.section line held n lines o) follows
    (turns held.section line held.proofs held.subs held.steps n lines stands.clear) in
    let fault : fault_behind edges n line (Some to) (λ s. fault_from edges s (n + 1) lines) ≡ report_fault edges all =
    subst (λ (o : Option Section). fault_behind edges n line o (λ s. fault_from edges s (n + 1) lines)
    ≡ report_fault edges all) follows stands.fault_is in
    record {
      clear = cleared to (keep_line n line held) turn.1;
      fault_is = subst (λ (b : Bool). cond b (Some (NoSuchConstraint n)) (fault_from edges to (n + 1) lines)
          ≡ report_fault edges all) known fault;
      proofs_is = moved to (keep_line n line held) (n + 1) lines ∙ turn.0 ∙ stands.proofs_is;
    }

-- a text that begins with a line has it as its first, and one without a line feed has no line that fits
pub lines_of-line : (text line behind : List ℕ)
    → slice_split (λ b. b == 10) text ≡ line ∷ slice_split (λ b. b == 10) behind
    → lines_of text ≡ line_kind line ∷ lines_of behind
lines_of-line text line behind parts =
    let rest = split_parts (λ b. b == 10) behind in
    ap lines_in parts ∙ ap (λ pieces. lines_in (line ∷ pieces)) rest.2
    ∙ ap (λ pieces. line_kind line ∷ lines_in pieces) (sym rest.2)

pub lines_of-whole : (text : List ℕ) → slice_split (λ b. b == 10) text ≡ text ∷ []
    → lines_of text ≡ (if bytes_eq text [] then [] else Other ∷ [])
lines_of-whole [] whole = refl
lines_of-whole (b ∷ text) whole = ap lines_in whole

-- no line but those of a report may stand in any section
pub no_other : (section : Section) → next section Other ≡ None
no_other Start = refl
no_other Opened = refl
no_other InError = refl
no_other (InSub k) = refl
no_other InPath = refl

-- the reader stands before the first line of what is left
pub stands_before : (edges : ℕ) (all : List Line) (held : Held) (n : ℕ) (text line behind : List ℕ) (kind : Line) →
    Stands edges all held n (lines_of text) → slice_split (λ b. b == 10) text ≡ line ∷ slice_split (λ b. b == 10) behind
    → kind ≡ line_kind line →
    Stands edges all held n (kind ∷ lines_of behind)
stands_before edges all held n text line behind kind stands parts is =
    subst (λ (lines : List Line). Stands edges all held n lines)
    (lines_of-line text line behind parts ∙ ap (λ k. k ∷ lines_of behind) (sym is)) stands

-- a line that fails is the first that does
pub fails_here : (edges : ℕ) (all : List Line) (held : Held) (n : ℕ) (line : Line) (lines : List Line)
    (e : ReportFault) →
    Stands edges all held n (line ∷ lines) → (e ≡ NoMemory) ⊎ FailsAt edges held.section n line e
    → (e ≡ NoMemory) ⊎ (report_fault edges all ≡ Some e)
fails_here edges all held n line lines e stands (inl out) = inl out
fails_here edges all held n line lines e stands (inr fails) =
    inr (sym stands.fault_is ∙ fails (λ s. fault_from edges s (n + 1) lines))

-- a line that was taken leaves the reader behind it
pub takes_here : (edges : ℕ) (all : List Line) (old new : Held) (n : ℕ) (line : Line) (lines : List Line) →
    Stands edges all old n (line ∷ lines) → Takes edges n line old new → Stands edges all new (n + 1) lines
takes_here edges all old new n line lines stands takes =
    subst (λ (held : Held). Stands edges all held (n + 1) lines) (sym takes.keeps)
    (stands_behind edges all old n line lines new.section stands takes.follows takes.known)
