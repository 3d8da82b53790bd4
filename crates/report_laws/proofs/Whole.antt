-- The text of a rejected report reads back as its errors.
use Rattle.std.proofs.Common.{◌≡◌, ℕ, ◌+◌, ◌-◌, ◌^◌, ◌<◌, ◌≤◌, ◌⊎◌, inl, inr, List, [], ◌∷◌, ◌++◌, length, map, slice_get, zero, suc, Some, None, All, refl, sym, ◌∙◌, ap, subst, arith, codes, append-nil, length-append}
use Rattle.std.proofs.lemmas.List.Elements.{All-nil, All-cons}
use Rattle.std.proofs.lemmas.Option.{slice_get_within}
use Rattle.lattice_core.specs.Order.{Order, IsLattice}
use Rattle.lattice_core.specs.View.{LatticeView, orders_of}
use Rattle.flow_graph.specs.declared.proof.PathStep.{PathStep}
use Rattle.flow_graph.specs.declared.proof.PathStep.TheVariants.{Take as TakeStep, Sub as SubStep}
use Rattle.flow_graph.specs.System.{System, IsWellOwned, most_constraints}
use Rattle.flow_graph.specs.Unfolding.{NamesElementsIn}
use Rattle.flow_graph.specs.PathProofs.{first_fault}
use Rattle.flow_laws.specs.Rejected.{InEach}
use Rattle.path_checker.specs.declared.lines.Line.{Line}
use Rattle.path_checker.specs.declared.lines.Line.TheVariants.{Rejected}
use Rattle.path_checker.specs.Lines.{lines_of}
use Rattle.path_checker.specs.Report.{Steps, proofs_in}
use Rattle.path_checker.specs.Grammar.{WrittenError, error_lines, AreNamed, SubsAreNamed, ErrorsAreNamed, IsReport}
use Rattle.path_checker.specs.ReportChecks.Checks.{StepsHold}
use Rattle.annotate.specs.Texts.{Scene, line}
use Rattle.annotate.specs.Reports.{IsErrorOf, NotExceeded, Exceeded, Errors, NoConstraint, NextError, IsOver, IsRejectedReport}
use Rattle.report_laws.specs.Scenes.{HasNoFeeds}
use Rattle.report_laws.specs.Laws.{written, written_error, written_proof, error_of, errors_of, ReadsBack, RejectedReadsBack}
use Rattle.report_laws.proofs.Known.{AllKnown, SubsKnown}
use Rattle.report_laws.proofs.Unlined.{holds_without_lines}
use Rattle.report_laws.proofs.Undecided.{rejected_exceeds}
use Rattle.report_laws.proofs.ReadBack.{errors_read_back}
use Rattle.report_laws.proofs.Texts.{then_nothing, rejected_line, error_known, errors_first}

-- steps that are known name constraints
steps_named : (sys : System) (steps : List PathStep) → AllKnown sys steps
    → AreNamed (length sys.constraints) (map written steps)
steps_named sys [] known = tt
steps_named sys (TakeStep edge l ∷ steps) known =
    (slice_get_within sys.constraints edge known.0.0 known.0.1, steps_named sys steps known.1)
steps_named sys (SubStep number l ∷ steps) known = steps_named sys steps known.1

subs_named : (sys : System) (subs : List (List PathStep)) → SubsKnown sys subs
    → SubsAreNamed (length sys.constraints) (map (map written) subs)
subs_named sys [] known = tt
subs_named sys (steps ∷ subs) known = (steps_named sys steps known.0, subs_named sys subs known.1)

both_named : (edges : ℕ) (one two : List WrittenError) → ErrorsAreNamed edges one → ErrorsAreNamed edges two
    → ErrorsAreNamed edges (one ++ two)
both_named edges [] two p q = q
both_named edges (e ∷ one) two p q = (p.0, p.1, both_named edges one two p.2 q)

-- some path proof that holds is written so
record HoldsSo (sys : System) (orders : List Order) (error : WrittenError) : Type 0 where
  subs : List (List PathStep)
  main : List PathStep
  end : ℕ
  is : written_error subs main ≡ error
  holds : first_fault sys orders subs main end ≡ None

abbrev AllHoldSo : System → List Order → List WrittenError → Type 0
AllHoldSo sys orders [] = Unit {0}
AllHoldSo sys orders (e ∷ errors) = HoldsSo sys orders e × AllHoldSo sys orders errors

both_hold : (sys : System) (orders : List Order) (one two : List WrittenError) → AllHoldSo sys orders one
    → AllHoldSo sys orders two → AllHoldSo sys orders (one ++ two)
both_hold sys orders [] two p q = q
both_hold sys orders (e ∷ one) two p q = (p.0, both_hold sys orders one two p.1 q)

-- proofs that read as errors whose proofs hold do so too
all_hold : (sys : System) (orders : List Order) (proofs : List Steps) (errors : List WrittenError)
    → map written_proof proofs ≡ errors → AllHoldSo sys orders errors →
    All (StepsHold sys orders) proofs
all_hold sys orders [] errors same holds = All-nil (StepsHold sys orders)
all_hold sys orders (p ∷ proofs) [] same holds = absurd cc
all_hold sys orders (p ∷ proofs) (e ∷ errors) same holds =
    let so = holds.0 in
    let head : written_proof p ≡ e = cc in
    let tail : map written_proof proofs ≡ errors = cc in
    let here : StepsHold sys orders p = holds_without_lines sys orders
    (record { subs = so.subs; main = so.main; end = so.end }) p (so.is ∙ sym head) so.holds in
    All-cons (StepsHold sys orders) p proofs here (all_hold sys orders proofs errors tail holds.1)

module _ (scene : Scene) (sys : System) (one : HasNoFeeds scene) (few : length sys.constraints ≤ most_constraints) where
  named_one : (number : ℕ) (text : List ℕ) (is : IsErrorOf scene sys number text) → length text < 2 ^ 32 - 1
      → ErrorsAreNamed (length sys.constraints) (error_of is)
  named_one number text (NotExceeded kept) short = tt
  named_one number text (Exceeded error over is) short =
      let known = error_known scene sys one few number error is short in
      (subs_named sys is.subs known.0, steps_named sys is.main known.1, tt)

  named : (number : ℕ) (text : List ℕ) (listed : Errors scene sys number text) → length text < 2 ^ 32 - 1
      → ErrorsAreNamed (length sys.constraints) (errors_of listed)
  named number text NoConstraint short = tt
  named _ _ (NextError number text error before is) short =
      let long = length-append text error in
      both_named (length sys.constraints) (errors_of before) (error_of is)
      (named number text before (omega (arith, short, long))) (named_one number error is (omega (arith, short, long)))

  hold_one : (number : ℕ) (text : List ℕ) (is : IsErrorOf scene sys number text)
      → AllHoldSo sys (orders_of scene.lattices) (error_of is)
  hold_one number text (NotExceeded kept) = tt
  hold_one number text (Exceeded error over is) =
      (record { subs = is.subs; main = is.main; end = is.end; is = refl; holds = is.holds }, tt)

  hold : (number : ℕ) (text : List ℕ) (listed : Errors scene sys number text)
      → AllHoldSo sys (orders_of scene.lattices) (errors_of listed)
  hold number text NoConstraint = tt
  hold _ _ (NextError number text error before is) =
      both_hold sys (orders_of scene.lattices) (errors_of before) (error_of is) (hold number text before)
      (hold_one number error is)

  -- where there is no error, no bound is exceeded
  no_front : (one two : List WrittenError) → one ++ two ≡ [] → (one ≡ []) × (two ≡ [])
  no_front [] two is = (refl, is)
  no_front (e ∷ one) two is = absurd cc

  kept_one : (number : ℕ) (text : List ℕ) (is : IsErrorOf scene sys number text) → error_of is ≡ []
      → IsOver scene sys number → ⊥
  kept_one number text (NotExceeded kept) none over = kept over
  kept_one number text (Exceeded error there is) none over = absurd cc

  at_last : (k number : ℕ) → k < number + 1 → (k < number) ⊎ (number ≡ k)
  at_last k number below = grind arith

  kept : (number : ℕ) (text : List ℕ) (listed : Errors scene sys number text) → errors_of listed ≡ [] → (k : ℕ)
      → k < number → IsOver scene sys k → ⊥
  kept number text NoConstraint none k below over = absurd (omega arith)
  kept _ _ (NextError number text error before is) none k below over =
      let parts = no_front (errors_of before) (error_of is) none in
      elim (at_last k number below) [
        | inl earlier ↦ kept number text before parts.0 k earlier over
        | inr same ↦ kept_one number error is parts.1 (subst (λ (n : ℕ). IsOver scene sys n) (sym same) over)
      ]

  some_error : (text : List ℕ) (report : IsRejectedReport scene sys text) → IsWellOwned sys
      → InEach (orders_of scene.lattices) (λ lattice order. IsLattice order) →
      InEach (orders_of scene.lattices) (λ lattice order. NamesElementsIn sys lattice order)
      → errors_of report.listed ≡ [] → ⊥
  some_error text report owned lats names none =
      rejected_exceeds sys (orders_of scene.lattices) owned lats names report.rejected
      (λ lattice order there n exceeded.
      kept (length sys.constraints) report.errors report.listed none n
      (slice_get_within sys.constraints n exceeded.bound.constraint exceeded.bound.there)
      (record { lattice = lattice; order = order; there = there; exceeded = exceeded }))

  report_of : (lines : List Line) (errors : List WrittenError) → lines ≡ Rejected ∷ error_lines errors
      → ErrorsAreNamed (length sys.constraints) errors → (errors ≡ [] → ⊥) → IsReport (length sys.constraints) lines
  report_of lines [] is names some = absurd (some refl)
  report_of lines (e ∷ errors) is names some = record { first = e; others = errors; lines_are = is; named = names }

  text_lines : (text : List ℕ) (report : IsRejectedReport scene sys text) → length report.errors < 2 ^ 32 - 1
      → lines_of text ≡ Rejected ∷ error_lines (errors_of report.listed)
  text_lines text report short =
      let errors = errors_of report.listed in
      ap lines_of report.spelled
      ∙ rejected_line scene sys one few report.errors
      ∙ ap (λ (ls : List Line). Rejected ∷ ls)
      (ap lines_of (sym (append-nil report.errors)) ∙ errors_first scene sys one few
      (length sys.constraints) report.errors report.listed [] short ∙ then_nothing errors)

  reads_back : (text : List ℕ) → IsWellOwned sys
      → InEach (orders_of scene.lattices) (λ lattice order. IsLattice order) →
      InEach (orders_of scene.lattices) (λ lattice order. NamesElementsIn sys lattice order) → length text < 2 ^ 32 - 1
      → (report : IsRejectedReport scene sys text) →
      ReadsBack sys (orders_of scene.lattices) text (errors_of report.listed)
  reads_back text owned lats names short report =
      let errors = errors_of report.listed in
      let whole : length text ≡ length (line (codes "rejected") ++ report.errors) = ap length report.spelled in
      let shorter : length report.errors < 2 ^ 32 - 1 =
      omega (arith, short, whole, length-append (line (codes "rejected")) report.errors) in
      let lines = text_lines text report shorter in
      let reads = report_of (lines_of text) errors lines
      (named (length sys.constraints) report.errors report.listed shorter) (some_error text report owned lats names) in
      let proofs : map written_proof (proofs_in (lines_of text)) ≡ errors =
      ap (λ (ls : List Line). map written_proof (proofs_in ls)) lines ∙ errors_read_back errors in
      let holds = all_hold sys (orders_of scene.lattices) (proofs_in (lines_of text)) errors proofs
      (hold (length sys.constraints) report.errors report.listed) in
      record { reads = reads; proofs = proofs; hold = holds; comes = (reads, holds) }

-- what is so of each lattice is so of each order
in_each : (P : ℕ → Order → Type 0) (lattices : List LatticeView)
    → ((n : ℕ) (view : LatticeView) → slice_get lattices n ≡ Some view → P n view.order) →
    InEach (orders_of lattices) P
in_each P [] all n order there = absurd cc
in_each P (view ∷ lattices) all zero order there =
    let same : view.order ≡ order = cc in
    subst (λ (o : Order). P zero o) same (all zero view refl)
in_each P (view ∷ lattices) all (suc n) order there = in_each (λ k. P (suc k)) lattices (λ k. all (suc k)) n order there

-- the text of a rejected report reads back as its errors, where no line feed is in what its lines name
pub rejected_reads_back : RejectedReadsBack
rejected_reads_back scene sys text one lats names owned few short report =
    reads_back scene sys one few text owned (in_each (λ lattice order. IsLattice order) scene.lattices lats)
    (in_each (λ lattice order. NamesElementsIn sys lattice order) scene.lattices names) short report
