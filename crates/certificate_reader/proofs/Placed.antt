-- Where the first fault of lines stands.
use Rattle.std.proofs.Common.{◌≡◌, ℕ, suc, ◌+◌, ◌<◌, ◌≤◌, Bool, true, false, List, [], ◌∷◌, ◌++◌, length, take, slice_get, Option, Some, None, refl, sym, ◌∙◌, subst, arith, cond}
use Rattle.lattice_core.specs.Order.{Order}
use Rattle.flow_graph.specs.System.{System}
use Rattle.certificate_reader.specs.declared.lines.Line.{Line}
use Rattle.certificate_reader.specs.declared.section.Section.{Section}
use Rattle.certificate_reader.specs.declared.section.Section.TheVariants.{Start}
use Rattle.certificate_reader.specs.declared.section.CertFault.{CertFault}
use Rattle.certificate_reader.specs.declared.section.CertFault.TheVariants.{Grammar, NoSuchVariable, NoMemory}
use Rattle.certificate_reader.specs.Grammar.{alls_of, is_known, AreKnown, IsShaped, IsPlaced}
use Rattle.certificate_reader.specs.Reader.{next, may_end, fault_behind, fault_from}
use Rattle.certificate_reader.proofs.Shapes.{passes, passes_behind, left_of, parts_are_passed, begun, begun_behind, completes}

module _ (sys : System) (alls : List ℕ) where
  -- the fault of lines from number n on is at the line that k lines come before
  pub record Misfits (section : Section) (k : ℕ) (lines : List Line) : Type 0 where
    pub within : k ≤ length lines
    pub behind : List Line
    pub begins : passes alls section (take k lines ++ behind) ≡ true
    pub known : AreKnown sys (take k lines)
    pub none : k < length lines → (others : List Line) → passes alls section (take (suc k) lines ++ others) ≡ true → ⊥
    pub short : k ≡ length lines → passes alls section lines ≡ true → ⊥

  pub record Unknown (section : Section) (k : ℕ) (lines : List Line) : Type 0 where
    pub behind : List Line
    pub begins : passes alls section (take (suc k) lines ++ behind) ≡ true
    pub known : AreKnown sys (take k lines)
    pub line : Line
    pub there : slice_get lines k ≡ Some line
    pub unknown : is_known sys line ≡ false

  abbrev Placed : Section → ℕ → List Line → CertFault → Type 0
  Placed section n lines (Grammar m) = (k : ℕ) × (m ≡ n + k) × Misfits section k lines
  Placed section n lines (NoSuchVariable m) = (k : ℕ) × (m ≡ n + k) × Unknown section k lines
  Placed section n lines NoMemory = Unit {0}

  -- a line that passes moves the place by one
  misfits_on : (section to : Section) (k : ℕ) (line : Line) (lines : List Line) → next alls section line ≡ Some to
      → is_known sys line ≡ true →
      Misfits to k lines → Misfits section (suc k) (line ∷ lines)
  misfits_on section to k line lines follows known it = record {
    within = omega (arith, it.within);
    behind = it.behind;
    begins = rw follows it.begins;
    known = (known, it.known);
    none = λ below others passed.
        it.none (omega (arith, below)) others (subst (λ (o : Option Section). passes_behind o
        (λ s. passes alls s (take (suc k) lines ++ others)) ≡ true) follows passed);
    short = λ end passed. it.short (omega (arith, end))
        (subst (λ (o : Option Section). passes_behind o (λ s. passes alls s lines) ≡ true) follows passed);
  }

  unknown_on : (section to : Section) (k : ℕ) (line : Line) (lines : List Line) → next alls section line ≡ Some to
      → is_known sys line ≡ true →
      Unknown to k lines → Unknown section (suc k) (line ∷ lines)
  unknown_on section to k line lines follows known it = record {
    behind = it.behind;
    begins = rw follows it.begins;
    known = (known, it.known);
    line = it.line;
    there = it.there;
    unknown = it.unknown;
  }

  placed_on : (section to : Section) (n : ℕ) (line : Line) (lines : List Line) (fault : CertFault)
      → next alls section line ≡ Some to → is_known sys line ≡ true →
      Placed to (n + 1) lines fault → Placed section n (line ∷ lines) fault
  placed_on section to n line lines (Grammar m) follows known (k, is, it) =
      (suc k, omega (arith, is), misfits_on section to k line lines follows known it)
  placed_on section to n line lines (NoSuchVariable m) follows known (k, is, it) =
      (suc k, omega (arith, is), unknown_on section to k line lines follows known it)
  placed_on section to n line lines NoMemory follows known it = tt

  -- no line stands before the fault
  misfits_here : (section : Section) (line : Line) (lines : List Line) → begun alls section ≤ length alls
      → next alls section line ≡ None → Misfits section 0 (line ∷ lines)
  misfits_here section line lines within follows =
      let done = completes alls section within in
      record {
        within = omega arith;
        behind = done.0;
        begins = done.1;
        known = tt;
        none = λ below others passed.
            let wrong =
            subst (λ (o : Option Section). passes_behind o (λ s. passes alls s others) ≡ true) follows passed in
            absurd cc;
        short = λ end passed. omega (arith, end);
      }

  unknown_here : (section to : Section) (line : Line) (lines : List Line) → begun alls section ≤ length alls
      → next alls section line ≡ Some to → is_known sys line ≡ false →
      Unknown section 0 (line ∷ lines)
  unknown_here section to line lines within follows unknown =
      let done = completes alls to (begun_behind alls section to line within follows) in
      record { behind = done.0; begins = rw follows done.1; known = tt; line = line; there = refl; unknown = unknown }

  at_once : (section : Section) (n : ℕ) (line : Line) (lines : List Line) (fault : CertFault)
      → begun alls section ≤ length alls → next alls section line ≡ None →
      Grammar n ≡ fault → Placed section n (line ∷ lines) fault
  at_once section n line lines fault within follows is =
      let placed : Placed section n (line ∷ lines) (Grammar n) =
      (0, omega arith, misfits_here section line lines within follows) in
      subst (λ (f : CertFault). Placed section n (line ∷ lines) f) is placed

  unnamed : (section to : Section) (n : ℕ) (line : Line) (lines : List Line) (fault : CertFault)
      → begun alls section ≤ length alls → next alls section line ≡ Some to →
      is_known sys line ≡ false → NoSuchVariable n ≡ fault → Placed section n (line ∷ lines) fault
  unnamed section to n line lines fault within follows unknown is =
      let placed : Placed section n (line ∷ lines) (NoSuchVariable n) =
      (0, omega arith, unknown_here section to line lines within follows unknown) in
      subst (λ (f : CertFault). Placed section n (line ∷ lines) f) is placed

  at_end : (section : Section) (n : ℕ) (fault : CertFault) (b : Bool) → begun alls section ≤ length alls
      → may_end alls section ≡ b →
      cond b None (Some (Grammar n)) ≡ Some fault → Placed section n [] fault
  at_end section n fault true within is h = absurd cc
  at_end section n fault false within is h =
      let done = completes alls section within in
      let placed : Placed section n [] (Grammar n) = (
        0,
        omega arith,
        record {
          within = omega arith;
          behind = done.0;
          begins = done.1;
          known = tt;
          none = λ below others passed. omega (arith, below);
          short = λ end passed. (let wrong : true ≡ false = sym passed ∙ is in absurd cc);
        },
      ) in
      let same : Grammar n ≡ fault = cc in
      subst (λ (f : CertFault). Placed section n [] f) same placed

  by_name : (section to : Section) (n : ℕ) (line : Line) (lines : List Line) (fault : CertFault) (b : Bool)
      → begun alls section ≤ length alls → next alls section line ≡ Some to →
      is_known sys line ≡ b → (fault_from sys alls to (n + 1) lines ≡ Some fault → Placed to (n + 1) lines fault) →
      cond b (fault_from sys alls to (n + 1) lines) (Some (NoSuchVariable n)) ≡ Some fault
      → Placed section n (line ∷ lines) fault
  by_name section to n line lines fault true within follows known deeper h =
      placed_on section to n line lines fault follows known (deeper h)
  by_name section to n line lines fault false within follows unknown deeper h =
      unnamed section to n line lines fault within follows unknown cc

  by_section : (section : Section) (n : ℕ) (line : Line) (lines : List Line) (fault : CertFault) (o : Option Section)
      → begun alls section ≤ length alls → next alls section line ≡ o →
      ((to : Section) → begun alls to ≤ length alls → fault_from sys alls to (n + 1) lines ≡ Some fault
      → Placed to (n + 1) lines fault) →
      fault_behind sys n line o (λ s. fault_from sys alls s (n + 1) lines) ≡ Some fault
      → Placed section n (line ∷ lines) fault
  by_section section n line lines fault None within follows deeper h =
      at_once section n line lines fault within follows cc
  by_section section n line lines fault (Some to) within follows deeper h =
      by_name section to n line lines fault (is_known sys line) within follows refl
      (deeper to (begun_behind alls section to line within follows)) h

  placed : (lines : List Line) (section : Section) (n : ℕ) (fault : CertFault) → begun alls section ≤ length alls
      → fault_from sys alls section n lines ≡ Some fault →
      Placed section n lines fault
  placed [] section n fault within h = at_end section n fault (may_end alls section) within refl h
  placed (line ∷ lines) section n fault within h =
      by_section section n line lines fault (next alls section line) within refl
      (λ to more. placed lines to (n + 1) fault more) h

module _ (sys : System) (orders : List Order) where
  pub shaped_of : (lines : List Line) → passes (alls_of orders) Start lines ≡ true → IsShaped orders lines
  shaped_of lines passed =
      let left = left_of (alls_of orders) lines Start passed in
      record { parts = left.0; fit = left.2; lines_are = left.1 }

  pub of_shaped : (lines : List Line) → IsShaped orders lines → passes (alls_of orders) Start lines ≡ true
  of_shaped lines shaped = rw shaped.lines_are (parts_are_passed (alls_of orders) shaped.parts shaped.fit)

  pub fault_is_placed : (lines : List Line) (fault : CertFault)
      → fault_from sys (alls_of orders) Start 1 lines ≡ Some fault → IsPlaced sys orders lines fault
  fault_is_placed lines (Grammar m) h =
      let there = placed sys (alls_of orders) lines Start 1 (Grammar m) (omega arith) h in
      record {
        before = there.0;
        number = omega (arith, there.1);
        within = there.2.within;
        begins = (there.2.behind, shaped_of (take there.0 lines ++ there.2.behind) there.2.begins);
        known = there.2.known;
        misfit = λ below begun. there.2.none below begun.0 (of_shaped (take (suc there.0) lines ++ begun.0) begun.1);
        unfinished = λ end shaped. there.2.short end (of_shaped lines shaped);
      }
  fault_is_placed lines (NoSuchVariable m) h =
      let there = placed sys (alls_of orders) lines Start 1 (NoSuchVariable m) (omega arith) h in
      record {
        before = there.0;
        number = omega (arith, there.1);
        begins = (there.2.behind, shaped_of (take (suc there.0) lines ++ there.2.behind) there.2.begins);
        known = there.2.known;
        line = there.2.line;
        there = there.2.there;
        unknown = there.2.unknown;
      }
  fault_is_placed lines NoMemory h = tt
