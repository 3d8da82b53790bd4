-- Where the first fault of a report stands.
use Rattle.std.proofs.Common.{◌≡◌, ℕ, suc, ◌+◌, ◌<◌, ◌≤◌, Bool, true, false, List, [], ◌∷◌, ◌++◌, length, take, slice_get, Option, Some, None, refl, sym, ap, subst, arith, cond}
use Rattle.path_checker.specs.declared.lines.Line.{Line}
use Rattle.path_checker.specs.declared.lines.Line.TheVariants.{Rejected, Error, Sub, Path, Take, Through, Other}
use Rattle.path_checker.specs.declared.report.Section.{Section}
use Rattle.path_checker.specs.declared.report.Section.TheVariants.{Start, Opened, InError, InSub, InPath}
use Rattle.path_checker.specs.declared.report.ReportFault.{ReportFault}
use Rattle.path_checker.specs.declared.report.ReportFault.TheVariants.{Grammar, NoSuchConstraint, NoMemory}
use Rattle.path_checker.specs.Report.{next, is_unknown, may_end, fault_from, fault_behind, report_fault}
use Rattle.path_checker.specs.Grammar.{BeginsReport, IsPlaced}
use Rattle.path_checker.proofs.WholeReports.{report_passes, passing_is_report}

module _ (edges : ℕ) where
  -- from each section some lines lead to the end
  completes : (section : Section) (n : ℕ)
      → (behind : List Line) × ((others : ℕ) → fault_from others section n behind ≡ None)
  completes Start n = (Rejected ∷ Error ∷ Path ∷ [], λ others. refl)
  completes Opened n = (Error ∷ Path ∷ [], λ others. refl)
  completes InError n = (Path ∷ [], λ others. refl)
  completes (InSub k) n = (Path ∷ [], λ others. refl)
  completes InPath n = ([], λ others. refl)

  -- the fault of lines that stand in a section from number n on is at the line that k lines come before
  pub record StandsAt (section : Section) (n k : ℕ) (lines : List Line) : Type 0 where
    pub within : k ≤ length lines
    pub behind : List Line
    pub begins : fault_from edges section n (take k lines ++ behind) ≡ None

  pub record Misfits (section : Section) (n k : ℕ) (lines : List Line) : Type 0 where
    pub stands : StandsAt section n k lines
    pub none : k < length lines → (others : ℕ) (behind : List Line)
        → fault_from others section n (take (suc k) lines ++ behind) ≡ None → ⊥

  pub record NamesNone (section : Section) (n k : ℕ) (lines : List Line) : Type 0 where
    pub stands : StandsAt section n k lines
    pub number : ℕ
    pub is : slice_get lines k ≡ Some (Take number)
    pub past : edges ≤ number
    pub behind : List Line
    pub fits : fault_from (suc number) section n (take (suc k) lines ++ behind) ≡ None

  abbrev Placed : Section → ℕ → List Line → ReportFault → Type 0
  Placed section n lines (Grammar m) = (k : ℕ) × (m ≡ n + k) × Misfits section n k lines
  Placed section n lines (NoSuchConstraint m) = (k : ℕ) × (m ≡ n + k) × NamesNone section n k lines
  Placed section n lines NoMemory = Unit {0}

  here : (section : Section) (n : ℕ) (lines : List Line) → StandsAt section n 0 lines
  here section n lines =
      let done = completes section n in
      record { within = omega arith; behind = done.0; begins = done.1 edges }

  unknown_line : (line : Line) → is_unknown edges line ≡ true → (number : ℕ) × (line ≡ Take number) × (edges ≤ number)
  unknown_line (Take m) unknown = (m, refl, grind (arith, unknown))
  unknown_line Rejected unknown = absurd cc
  unknown_line Error unknown = absurd cc
  unknown_line (Sub m) unknown = absurd cc
  unknown_line Path unknown = absurd cc
  unknown_line (Through m) unknown = absurd cc
  unknown_line Other unknown = absurd cc

  -- what names one of the constraints names one of more
  known_of_more : (others : ℕ) (line : Line) → edges ≤ others → is_unknown edges line ≡ false
      → is_unknown others line ≡ false
  known_of_more others (Take m) more known = grind (arith, known, more)
  known_of_more others Rejected more known = refl
  known_of_more others Error more known = refl
  known_of_more others (Sub m) more known = refl
  known_of_more others Path more known = refl
  known_of_more others (Through m) more known = refl
  known_of_more others Other more known = refl

  -- a line that passes moves the place by one
  stands_on : (section to : Section) (n k : ℕ) (line : Line) (lines : List Line) → next section line ≡ Some to
      → is_unknown edges line ≡ false →
      StandsAt to (n + 1) k lines → StandsAt section n (suc k) (line ∷ lines)
  stands_on section to n k line lines follows named stands = record {
    within = omega (arith, stands.within);
    behind = stands.behind;
    begins = rw (follows, named) stands.begins;
  }

  passes_on : (others : ℕ) (section to : Section) (n : ℕ) (line : Line) (rest : List Line) (b : Bool)
      → is_unknown others line ≡ b →
      cond b (Some (NoSuchConstraint n)) (fault_from others to (n + 1) rest) ≡ None
      → fault_from others to (n + 1) rest ≡ None
  passes_on others section to n line rest true is h = absurd cc
  passes_on others section to n line rest false is h = h

  placed_on : (section to : Section) (n : ℕ) (line : Line) (lines : List Line) (fault : ReportFault)
      → next section line ≡ Some to → is_unknown edges line ≡ false →
      Placed to (n + 1) lines fault → Placed section n (line ∷ lines) fault
  placed_on section to n line lines (Grammar m) follows named (k, is, misfits) = (
    suc k,
    omega (arith, is),
    record {
      stands = stands_on section to n k line lines follows named misfits.stands;
      none = λ below others behind passes.
          misfits.none (omega (arith, below)) others behind
          (passes_on others section to n line (take (suc k) lines ++ behind) (is_unknown others line) refl
          (subst (λ (o : Option Section). fault_behind others n line o
          (λ s. fault_from others s (n + 1) (take (suc k) lines ++ behind)) ≡ None) follows passes));
    },
  )
  placed_on section to n line lines (NoSuchConstraint m) follows named (k, is, names) = (
    suc k,
    omega (arith, is),
    record {
      stands = stands_on section to n k line lines follows named names.stands;
      number = names.number;
      is = names.is;
      past = names.past;
      behind = names.behind;
      fits = rw (follows, known_of_more (suc names.number) line (omega (arith, names.past)) named) names.fits;
    },
  )
  placed_on section to n line lines NoMemory follows named placed = tt

  at_once : (section : Section) (n : ℕ) (line : Line) (lines : List Line) (fault : ReportFault)
      → next section line ≡ None → Grammar n ≡ fault → Placed section n (line ∷ lines) fault
  at_once section n line lines fault follows is =
      let placed : Placed section n (line ∷ lines) (Grammar n) = (
        0,
        omega arith,
        record {
          stands = here section n (line ∷ lines);
          none = λ below others behind passes.
              let clash : fault_behind others n line None (λ s. fault_from others s (n + 1) behind) ≡ None =
              subst (λ (o : Option Section). fault_behind others n line o (λ s. fault_from others s (n + 1) behind)
              ≡ None) follows passes in
              cc;
        },
      ) in
      subst (λ (f : ReportFault). Placed section n (line ∷ lines) f) is placed

  -- the number itself is below one more
  known_below : (m : ℕ) → is_unknown (suc m) (Take m) ≡ false
  known_below m = grind arith

  unnamed : (section to : Section) (n : ℕ) (line : Line) (lines : List Line) (fault : ReportFault)
      → next section line ≡ Some to → is_unknown edges line ≡ true → NoSuchConstraint n ≡ fault →
      Placed section n (line ∷ lines) fault
  unnamed section to n line lines fault follows unknown is =
      let number = unknown_line line unknown in
      let end = completes to (n + 1) in
      let known : is_unknown (suc number.0) line ≡ false =
      subst (λ (l : Line). is_unknown (suc number.0) l ≡ false) (sym number.1) (known_below number.0) in
      let placed : Placed section n (line ∷ lines) (NoSuchConstraint n) = (
        0,
        omega arith,
        record {
          stands = here section n (line ∷ lines);
          number = number.0;
          is = ap Some number.1;
          past = number.2;
          behind = end.0;
          fits = rw (follows, known) (end.1 (suc number.0));
        },
      ) in
      subst (λ (f : ReportFault). Placed section n (line ∷ lines) f) is placed

  placed_named : (section to : Section) (n : ℕ) (line : Line) (lines : List Line) (fault : ReportFault) (b : Bool)
      → is_unknown edges line ≡ b → next section line ≡ Some to →
      ((to : Section) → fault_from edges to (n + 1) lines ≡ Some fault → Placed to (n + 1) lines fault) →
      cond b (Some (NoSuchConstraint n)) (fault_from edges to (n + 1) lines) ≡ Some fault
      → Placed section n (line ∷ lines) fault
  placed_named section to n line lines fault true unknown follows deeper h =
      unnamed section to n line lines fault follows unknown cc
  placed_named section to n line lines fault false named follows deeper h =
      placed_on section to n line lines fault follows named (deeper to h)

  placed_behind : (section : Section) (n : ℕ) (line : Line) (lines : List Line) (fault : ReportFault)
      (o : Option Section)
      → next section line ≡ o →
      ((to : Section) → fault_from edges to (n + 1) lines ≡ Some fault → Placed to (n + 1) lines fault) →
      fault_behind edges n line o (λ s. fault_from edges s (n + 1) lines) ≡ Some fault
      → Placed section n (line ∷ lines) fault
  placed_behind section n line lines fault None follows deeper h = at_once section n line lines fault follows cc
  placed_behind section n line lines fault (Some to) follows deeper h =
      placed_named section to n line lines fault (is_unknown edges line) refl follows deeper h

  at_end : (section : Section) (n : ℕ) (fault : ReportFault) (b : Bool) → cond b None (Some (Grammar n)) ≡ Some fault
      → Placed section n [] fault
  at_end section n fault true h = absurd cc
  at_end section n fault false h =
      let placed : Placed section n [] (Grammar n) = (
        0,
        omega arith,
        record { stands = here section n []; none = λ below others behind passes. absurd (omega (arith, below)) },
      ) in
      let same : Grammar n ≡ fault = cc in
      subst (λ (f : ReportFault). Placed section n [] f) same placed

  placed : (lines : List Line) (section : Section) (n : ℕ) (fault : ReportFault)
      → fault_from edges section n lines ≡ Some fault → Placed section n lines fault
  placed [] section n fault h = at_end section n fault (may_end section) h
  placed (line ∷ lines) section n fault h =
      placed_behind section n line lines fault (next section line) refl (λ to. placed lines to (n + 1) fault) h

  begins_report : (k : ℕ) (lines : List Line) → StandsAt Start 1 k lines → BeginsReport edges (take k lines)
  begins_report k lines stands = (stands.behind, passing_is_report edges (take k lines ++ stands.behind) stands.begins)

  pub fault_is_placed : (lines : List Line) (fault : ReportFault) → report_fault edges lines ≡ Some fault
      → IsPlaced edges lines fault
  fault_is_placed lines (Grammar m) h =
      let there = placed lines Start 1 (Grammar m) h in
      record {
        before = there.0;
        number = omega (arith, there.1);
        within = there.2.stands.within;
        begins = begins_report there.0 lines there.2.stands;
        misfit = λ below others begun.
            there.2.none below others begun.0 (report_passes others (take (suc there.0) lines ++ begun.0) begun.1);
        unfinished = λ end is. let passes = report_passes edges lines is in cc;
      }
  fault_is_placed lines (NoSuchConstraint m) h =
      let there = placed lines Start 1 (NoSuchConstraint m) h in
      record {
        before = there.0;
        number = omega (arith, there.1);
        begins = begins_report there.0 lines there.2.stands;
        constraint = there.2.number;
        line_is = there.2.is;
        past = there.2.past;
        fits = (
          there.2.behind,
          passing_is_report (suc there.2.number) (take (suc there.0) lines ++ there.2.behind) there.2.fits,
        );
      }
  fault_is_placed lines NoMemory h = tt
