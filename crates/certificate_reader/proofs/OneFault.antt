-- A fault of lines has one place.
use Rattle.std.proofs.Common.{◌≡◌, ℕ, zero, suc, ◌<◌, ◌≤◌, true, false, List, [], ◌∷◌, ◌++◌, length, take, slice_get, Some, refl, sym, ◌∙◌, ap, subst, arith, append_assoc, inl, inr}
use Rattle.std.proofs.lemmas.Bool.{cases_order}
use Rattle.std.proofs.lemmas.Option.{slice_get_within}
use Rattle.lattice_core.specs.Order.{Order}
use Rattle.flow_graph.specs.System.{System}
use Rattle.certificate_reader.specs.declared.lines.Line.{Line}
use Rattle.certificate_reader.specs.declared.section.CertFault.{CertFault}
use Rattle.certificate_reader.specs.declared.section.CertFault.TheVariants.{Grammar, NoSuchVariable, NoMemory}
use Rattle.certificate_reader.specs.Grammar.{IsShaped, BeginsText, AreKnown, IsMisfit, NamesNone, IsPlaced, is_known}
use Rattle.certificate_reader.specs.Laws.{OneFault}

-- the front of a list, and of a longer front
pub front : {A : Type 0} → (xs : List A) (k : ℕ) → (rest : List A) × (xs ≡ take k xs ++ rest)
front xs zero = (xs, refl)
front [] (suc k) = ([], refl)
front (x ∷ xs) (suc k) = let deeper = front xs k in (deeper.0, ap (λ ys. x ∷ ys) deeper.1)

-- more first items of a list are fewer ones and some behind them
pub longer_front : {A : Type 0} → (xs : List A) (k m : ℕ) → k ≤ m → (rest : List A) × (take m xs ≡ take k xs ++ rest)
longer_front xs zero m short = (take m xs, refl)
longer_front [] (suc k) zero short = absurd (omega (arith, short))
longer_front [] (suc k) (suc m) short = ([], refl)
longer_front (x ∷ xs) (suc k) zero short = absurd (omega (arith, short))
longer_front (x ∷ xs) (suc k) (suc m) short =
    let deeper = longer_front xs k m (omega (arith, short)) in
    (deeper.0, ap (λ ys. x ∷ ys) deeper.1)

pub all_taken : {A : Type 0} → (xs : List A) → take (length xs) xs ≡ xs
all_taken [] = refl
all_taken (x ∷ xs) = ap (λ ys. x ∷ ys) (all_taken xs)

module _ (sys : System) (orders : List Order) where
  -- what begins a text begins it with fewer lines
  pub begins_sooner : (lines : List Line) (k m : ℕ) → k ≤ m → BeginsText orders (take m lines)
      → BeginsText orders (take k lines)
  begins_sooner lines k m short begins =
      let more = longer_front lines k m short in (
        more.0 ++ begins.0,
        subst (λ (ls : List Line). IsShaped orders ls)
            (ap (λ (ls : List Line). ls ++ begins.0) more.1 ∙ append_assoc (take k lines) more.0 begins.0) begins.1,
      )

  pub shaped_begins : (lines : List Line) (k : ℕ) → IsShaped orders lines → BeginsText orders (take k lines)
  shaped_begins lines k shaped =
      let more = front lines k in
      (more.0, subst (λ (ls : List Line). IsShaped orders ls) more.1 shaped)

  pub known_there : (lines : List Line) (j k : ℕ) (line : Line) → AreKnown sys (take k lines)
      → slice_get lines j ≡ Some line → j < k → is_known sys line ≡ true
  known_there [] j k line known there low = absurd cc
  known_there (l ∷ lines) j zero line known there low = absurd (omega (arith, low))
  known_there (l ∷ lines) zero (suc k) line known there low =
      let same : l ≡ line = cc in
      subst (λ (it : Line). is_known sys it ≡ true) same known.0
  known_there (l ∷ lines) (suc j) (suc k) line known there low =
      known_there lines j k line known.1 there (omega (arith, low))

  -- the first line that does not fit has no other that does not fit before it
  not_sooner : (lines : List Line) (m n : ℕ) (one : IsMisfit sys orders lines m) (other : IsMisfit sys orders lines n)
      → one.before < other.before → ⊥
  not_sooner lines m n one other sooner =
      one.misfit (omega (arith, sooner, other.within))
      (begins_sooner lines (suc one.before) other.before (omega (arith, sooner)) other.begins)

  same_misfit : (lines : List Line) (m n : ℕ) → IsMisfit sys orders lines m → IsMisfit sys orders lines n → m ≡ n
  same_misfit lines m n one other = elim (cases_order one.before other.before) [
    | inl same ↦ omega (arith, one.number, other.number, same)
    | inr (inl sooner) ↦ absurd (not_sooner lines m n one other sooner)
    | inr (inr later) ↦ absurd (not_sooner lines n m other one later)
  ]

  -- nor an unknown name
  unknown_clash : {A : Type 0} → (line : Line) → is_known sys line ≡ true → is_known sys line ≡ false → A
  unknown_clash line known unknown = absurd cc

  misfit_or_name : {A : Type 0} → (lines : List Line) (m n : ℕ) → IsMisfit sys orders lines m
      → NamesNone sys orders lines n → A
  misfit_or_name lines m n one other = elim (cases_order one.before other.before) [
    | inl same ↦
        absurd (one.misfit (omega (arith, same, slice_get_within lines other.before other.line other.there))
        (begins_sooner lines (suc one.before) (suc other.before) (omega (arith, same)) other.begins))
    | inr (inl sooner) ↦
        absurd (one.misfit (omega (arith, sooner, slice_get_within lines other.before other.line other.there))
        (begins_sooner lines (suc one.before) (suc other.before) (omega (arith, sooner)) other.begins))
    | inr (inr later) ↦ unknown_clash other.line
        (known_there lines other.before one.before other.line one.known other.there later) other.unknown
  ]

  same_name : (lines : List Line) (m n : ℕ) → NamesNone sys orders lines m → NamesNone sys orders lines n → m ≡ n
  same_name lines m n one other = elim (cases_order one.before other.before) [
    | inl same ↦ omega (arith, one.number, other.number, same)
    | inr (inl sooner) ↦ unknown_clash one.line
        (known_there lines one.before other.before one.line other.known one.there sooner) one.unknown
    | inr (inr later) ↦ unknown_clash other.line
        (known_there lines other.before one.before other.line one.known other.there later) other.unknown
  ]

  all_known : (lines : List Line) (j : ℕ) (line : Line) → AreKnown sys lines → slice_get lines j ≡ Some line
      → is_known sys line ≡ true
  all_known lines j line known there =
      known_there lines j (length lines) line
      (subst (λ (ls : List Line). AreKnown sys ls) (sym (all_taken lines)) known) there
      (slice_get_within lines j line there)

  -- lines of certificates, whose names are known, have no fault
  misfit_of_none : (lines : List Line) (n : ℕ) → IsShaped orders lines → IsMisfit sys orders lines n → ⊥
  misfit_of_none lines n shaped is = elim (cases_order is.before (length lines)) [
    | inl same ↦ is.unfinished same shaped
    | inr (inl low) ↦ is.misfit low (shaped_begins lines (suc is.before) shaped)
    | inr (inr high) ↦ omega (arith, high, is.within)
  ]

  pub shaped_has_none : (lines : List Line) (fault : CertFault) → IsShaped orders lines → AreKnown sys lines
      → IsPlaced sys orders lines fault → fault ≡ NoMemory
  shaped_has_none lines (Grammar n) shaped known is = absurd (misfit_of_none lines n shaped is)
  shaped_has_none lines (NoSuchVariable n) shaped known is =
      unknown_clash is.line (all_known lines is.before is.line known is.there) is.unknown
  shaped_has_none lines NoMemory shaped known is = refl

-- two faults of the same lines, neither of which is want of memory, are equal
pub one_fault : OneFault
one_fault sys orders lines (Grammar m) (Grammar n) some too one other =
    ap Grammar (same_misfit sys orders lines m n one other)
one_fault sys orders lines (Grammar m) (NoSuchVariable n) some too one other =
    misfit_or_name sys orders lines m n one other
one_fault sys orders lines (NoSuchVariable m) (Grammar n) some too one other =
    misfit_or_name sys orders lines n m other one
one_fault sys orders lines (NoSuchVariable m) (NoSuchVariable n) some too one other =
    ap NoSuchVariable (same_name sys orders lines m n one other)
one_fault sys orders lines NoMemory other some too is also = absurd (some refl)
one_fault sys orders lines (Grammar m) NoMemory some too is also = absurd (too refl)
one_fault sys orders lines (NoSuchVariable m) NoMemory some too is also = absurd (too refl)
