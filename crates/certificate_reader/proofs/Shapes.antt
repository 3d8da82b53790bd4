-- The lines of certificates, whatever their names say: those that pass from section to section to an end.
use Rattle.std.proofs.Common.{◌≡◌, ℕ, ◌+◌, ◌-◌, ◌<◌, ◌≤◌, ◌==◌, ◌&&◌, Bool, true, false, nat_lt, List, [], ◌∷◌, length, drop, slice_index, Option, Some, None, refl, sym, ◌∙◌, ap, subst, arith, cond, inl, inr}
use Rattle.std.proofs.lemmas.Bool.{cases_lt}
use Rattle.std.proofs.lemmas.List.{drop_all}
use Rattle.std.proofs.Common.{drop-cons, add-one}
use Rattle.qual_base.proofs.Tests.{below_is, is_below}
use Rattle.certificate_text.specs.declared.putting.SetLine.{SetLine}
use Rattle.certificate_text.specs.Text.{Written}
use Rattle.certificate_reader.specs.declared.lines.Line.{Line}
use Rattle.certificate_reader.specs.declared.lines.Line.TheVariants.{Certificate, Lattice, Set, Pair, Other}
use Rattle.certificate_reader.specs.declared.section.Section.{Section}
use Rattle.certificate_reader.specs.declared.section.Section.TheVariants.{Start, Opened, InSets, InPairs}
use Rattle.certificate_reader.specs.Grammar.{set_lines, pair_lines, part_lines, lines_of_parts, name_behind, pair_behind, sets_fit, SetsFit, PairsFit, PartsFit}
use Rattle.certificate_reader.specs.Reader.{next, may_end}

-- lines pass from a section to an end
abbrev pub passes_behind : Option Section → (Section → Bool) → Bool
passes_behind None behind = false
passes_behind (Some section) behind = behind section

abbrev pub passes : List ℕ → Section → List Line → Bool
passes alls section [] = may_end alls section
passes alls section (line ∷ lines) = passes_behind (next alls section line) (λ s. passes alls s lines)

-- both tests, one by one
pub both_true : {A : Type 0} → (a b : Bool) → (a && b) ≡ true → (a ≡ true → b ≡ true → A) → A
both_true true true h then_ = then_ refl refl
both_true true false h then_ = absurd cc
both_true false b h then_ = absurd cc

same_number : (n k : ℕ) → (n == k) ≡ true → n ≡ k
same_number n k h = grind (arith, h)

number_same : (n : ℕ) → (n == n) ≡ true
number_same n = grind arith

module _ (alls : List ℕ) where
  -- what is left of certificates in a section
  pub record PartsLeft (k : ℕ) (lines : List Line) : Type 0 where
    pub parts : List Written
    pub lines_are : lines ≡ part_lines (k + 1) parts []
    pub fit : PartsFit (drop k alls) parts

  pub record PairsLeft (k : ℕ) (last : Option (ℕ × ℕ)) (lines : List Line) : Type 0 where
    pub pairs : List (ℕ × ℕ)
    pub parts : List Written
    pub lines_are : lines ≡ pair_lines pairs (part_lines (k + 1) parts [])
    pub pairs_fit : PairsFit last pairs
    pub fit : PartsFit (drop k alls) parts

  pub record SetsLeft (k : ℕ) (last : Option ℕ) (lines : List Line) : Type 0 where
    pub sets : List SetLine
    pub pairs : List (ℕ × ℕ)
    pub parts : List Written
    pub lines_are : lines ≡ set_lines sets (pair_lines pairs (part_lines (k + 1) parts []))
    pub sets_fit : SetsFit (slice_index alls (k - 1)) last sets
    pub pairs_fit : PairsFit None pairs
    pub fit : PartsFit (drop k alls) parts

  abbrev pub Left : Section → List Line → Type 0
  Left Start lines = (parts : List Written) × (lines ≡ lines_of_parts parts) × PartsFit alls parts
  Left Opened lines = PartsLeft 0 lines
  Left (InSets k last) lines = SetsLeft k last lines
  Left (InPairs k u v) lines = PairsLeft k (Some (u, v)) lines

  -- no lattice is left
  none_left : (k : ℕ) → (length alls == k) ≡ true → PartsFit (drop k alls) []
  none_left k ends =
      let same : length alls ≡ k = same_number (length alls) k ends in
      rw (drop_all k alls (omega (arith, same))) tt

  -- the lattices from one on are that one and those behind it
  lattices_from : (k : ℕ) → k < length alls → drop k alls ≡ slice_index alls k ∷ drop (k + 1) alls
  lattices_from k low = drop-cons alls k 0 low ∙ ap (λ (j : ℕ). slice_index alls k ∷ drop j alls) (sym (add-one k))

  parts_in_pairs : (k : ℕ) (last : Option (ℕ × ℕ)) (lines : List Line) → PartsLeft k lines → PairsLeft k last lines
  parts_in_pairs k last lines left =
      record { pairs = []; parts = left.parts; lines_are = left.lines_are; pairs_fit = tt; fit = left.fit }

  pairs_in_sets : (k : ℕ) (last : Option ℕ) (lines : List Line) → PairsLeft k None lines → SetsLeft k last lines
  pairs_in_sets k last lines left = record {
    sets = [];
    pairs = left.pairs;
    parts = left.parts;
    lines_are = left.lines_are;
    sets_fit = tt;
    pairs_fit = left.pairs_fit;
    fit = left.fit;
  }

  -- the line of the next lattice
  part_opens : (k n : ℕ) (lines : List Line) → n ≡ k + 1 → k < length alls → SetsLeft n None lines
      → PartsLeft k (Lattice n ∷ lines)
  part_opens k n lines same low left =
      let less : n - 1 ≡ k = omega (arith, same) in
      record {
        parts = record { sets = left.sets; pairs = left.pairs } ∷ left.parts;
        lines_are = ap (λ (ls : List Line). Lattice n ∷ ls) left.lines_are
            ∙ ap (λ (j : ℕ). Lattice j
            ∷ set_lines left.sets (pair_lines left.pairs (part_lines (j + 1) left.parts []))) same;
        fit = rw (lattices_from k low) (
          subst (λ (j : ℕ). SetsFit (slice_index alls j) None left.sets) less left.sets_fit,
          left.pairs_fit,
          subst (λ (j : ℕ). PartsFit (drop j alls) left.parts) same left.fit,
        );
      }

  set_goes_on : (k : ℕ) (last : Option ℕ) (name first second : ℕ) (lines : List Line) → name_behind last name ≡ true →
      sets_fit (slice_index alls (k - 1)) first second ≡ true → SetsLeft k (Some name) lines
      → SetsLeft k last (Set name first second ∷ lines)
  set_goes_on k last name first second lines later fits left = record {
    sets = record { name = name; first = first; second = second } ∷ left.sets;
    pairs = left.pairs;
    parts = left.parts;
    lines_are = ap (λ (ls : List Line). Set name first second ∷ ls) left.lines_are;
    sets_fit = (later, fits, left.sets_fit);
    pairs_fit = left.pairs_fit;
    fit = left.fit;
  }

  pair_goes_on : (k : ℕ) (last : Option (ℕ × ℕ)) (u v : ℕ) (lines : List Line) → pair_behind last (u, v) ≡ true →
      PairsLeft k (Some (u, v)) lines → PairsLeft k last (Pair u v ∷ lines)
  pair_goes_on k last u v lines later left = record {
    pairs = (u, v) ∷ left.pairs;
    parts = left.parts;
    lines_are = ap (λ (ls : List Line). Pair u v ∷ ls) left.lines_are;
    pairs_fit = (later, left.pairs_fit);
    fit = left.fit;
  }

  -- where a section is given by a test, the test holds
  by_test : {A : Type 0} → (section : Section) (behind : Section → Bool) (b : Bool)
      → passes_behind (cond b (Some section) None) behind ≡ true →
      (b ≡ true → behind section ≡ true → A) → A
  by_test section behind true h then_ = then_ refl h
  by_test section behind false h then_ = absurd cc

  by_lattice : (k n : ℕ) (lines : List Line)
      → passes_behind (cond ((n == k + 1) && nat_lt k (length alls)) (Some (InSets n None)) None)
      (λ s. passes alls s lines) ≡ true →
      (passes alls (InSets n None) lines ≡ true → SetsLeft n None lines) → PartsLeft k (Lattice n ∷ lines)
  by_lattice k n lines h deeper =
      by_test (InSets n None) (λ s. passes alls s lines) ((n == k + 1) && nat_lt k (length alls)) h
      (λ test more. both_true (n == k + 1) (nat_lt k (length alls)) test
      (λ same low. part_opens k n lines (same_number n (k + 1) same) (below_is k (length alls) low) (deeper more)))

  -- lines that pass are those that are left of certificates
  pub left_of : (lines : List Line) (section : Section) → passes alls section lines ≡ true → Left section lines
  left_of [] Start h = absurd cc
  left_of [] Opened h = record { parts = []; lines_are = refl; fit = none_left 0 h }
  left_of [] (InSets k last) h =
      record { sets = []; pairs = []; parts = []; lines_are = refl; sets_fit = tt; pairs_fit = tt; fit = none_left k h }
  left_of [] (InPairs k u v) h =
      record { pairs = []; parts = []; lines_are = refl; pairs_fit = tt; fit = none_left k h }
  left_of (Certificate ∷ lines) Start h =
      let left = left_of lines Opened h in
      (left.parts, ap (λ (ls : List Line). Certificate ∷ ls) left.lines_are, left.fit)
  left_of (Lattice n ∷ lines) Start h = absurd cc
  left_of (Set name first second ∷ lines) Start h = absurd cc
  left_of (Pair from to ∷ lines) Start h = absurd cc
  left_of (Other ∷ lines) Start h = absurd cc
  left_of (Certificate ∷ lines) Opened h = absurd cc
  left_of (Lattice n ∷ lines) Opened h = by_lattice 0 n lines h (left_of lines (InSets n None))
  left_of (Set name first second ∷ lines) Opened h = absurd cc
  left_of (Pair from to ∷ lines) Opened h = absurd cc
  left_of (Other ∷ lines) Opened h = absurd cc
  left_of (Certificate ∷ lines) (InSets k last) h = absurd cc
  left_of (Lattice n ∷ lines) (InSets k last) h =
      pairs_in_sets k last _ (parts_in_pairs k None _ (by_lattice k n lines h (left_of lines (InSets n None))))
  left_of (Set name first second ∷ lines) (InSets k last) h =
      by_test (InSets k (Some name)) (λ s. passes alls s lines)
      (name_behind last name && sets_fit (slice_index alls (k - 1)) first second) h
      (λ test more. both_true (name_behind last name) (sets_fit (slice_index alls (k - 1)) first second) test
      (λ later fits. set_goes_on k last name first second lines later fits (left_of lines (InSets k (Some name)) more)))
  left_of (Pair from to ∷ lines) (InSets k last) h =
      pairs_in_sets k last _ (pair_goes_on k None from to lines refl (left_of lines (InPairs k from to) h))
  left_of (Other ∷ lines) (InSets k last) h = absurd cc
  left_of (Certificate ∷ lines) (InPairs k u v) h = absurd cc
  left_of (Lattice n ∷ lines) (InPairs k u v) h =
      parts_in_pairs k (Some (u, v)) _ (by_lattice k n lines h (left_of lines (InSets n None)))
  left_of (Set name first second ∷ lines) (InPairs k u v) h = absurd cc
  left_of (Pair from to ∷ lines) (InPairs k u v) h =
      by_test (InPairs k from to) (λ s. passes alls s lines) (pair_behind (Some (u, v)) (from, to)) h
      (λ later more. pair_goes_on k (Some (u, v)) from to lines later (left_of lines (InPairs k from to) more))
  left_of (Other ∷ lines) (InPairs k u v) h = absurd cc

  -- lines pass wherever sets or pairs of a lattice stand
  abbrev Behind : ℕ → List Line → Type 0
  Behind k lines =
      ((last : Option ℕ) → passes alls (InSets k last) lines ≡ true)
      × ((u v : ℕ) → passes alls (InPairs k u v) lines ≡ true)

  sets_pass : (sets : List SetLine) (k : ℕ) (last : Option ℕ) (behind : List Line)
      → SetsFit (slice_index alls (k - 1)) last sets →
      ((other : Option ℕ) → passes alls (InSets k other) behind ≡ true)
      → passes alls (InSets k last) (set_lines sets behind) ≡ true
  sets_pass [] k last behind fit ends = ends last
  sets_pass (it ∷ sets) k last behind fit ends = rw (fit.0, fit.1) (sets_pass sets k (Some it.name) behind fit.2 ends)

  pairs_pass : (pairs : List (ℕ × ℕ)) (k u v : ℕ) (behind : List Line) → PairsFit (Some (u, v)) pairs
      → Behind k behind →
      passes alls (InPairs k u v) (pair_lines pairs behind) ≡ true
  pairs_pass [] k u v behind fit ends = ends.1 u v
  pairs_pass ((from, to) ∷ pairs) k u v behind fit ends = rw fit.0 (pairs_pass pairs k from to behind fit.1 ends)

  pairs_begin : (pairs : List (ℕ × ℕ)) (k : ℕ) (last : Option ℕ) (behind : List Line) → PairsFit None pairs
      → Behind k behind →
      passes alls (InSets k last) (pair_lines pairs behind) ≡ true
  pairs_begin [] k last behind fit ends = ends.0 last
  pairs_begin ((from, to) ∷ pairs) k last behind fit ends = pairs_pass pairs k from to behind fit.1 ends

  -- a lattice is left for each part
  low_of : (k : ℕ) (part : Written) (parts : List Written) → PartsFit (drop k alls) (part ∷ parts) → k < length alls
  low_of k part parts fit = elim (cases_lt k (length alls)) [
    | inl low ↦ low
    | inr high ↦ absurd (subst (λ (some : List ℕ). PartsFit some (part ∷ parts)) (drop_all k alls high) fit)
  ]

  whole_of : (k : ℕ) → k ≤ length alls → PartsFit (drop k alls) [] → length alls ≡ k
  whole_of k within fit = elim (cases_lt k (length alls)) [
    | inl low ↦ absurd (subst (λ (some : List ℕ). PartsFit some []) (lattices_from k low) fit)
    | inr high ↦ omega (arith, high, within)
  ]

  parts_pass : (parts : List Written) (k : ℕ) → k ≤ length alls → PartsFit (drop k alls) parts
      → Behind k (part_lines (k + 1) parts [])
  parts_pass [] k within fit =
      let ends : (length alls == k) ≡ true =
      subst (λ (n : ℕ). (n == k) ≡ true) (sym (whole_of k within fit)) (number_same k) in
      (λ last. ends, λ u v. ends)
  parts_pass (part ∷ parts) k within fit =
      let low = low_of k part parts fit in
      let it = subst (λ (some : List ℕ). PartsFit some (part ∷ parts)) (lattices_from k low) fit in
      let less : k + 1 - 1 ≡ k = omega arith in
      let rest = part_lines (k + 1 + 1) parts [] in
      let deeper : Behind (k + 1) rest = parts_pass parts (k + 1) (omega (arith, low)) it.2 in
      let opened : passes alls (InSets (k + 1) None) (set_lines part.sets (pair_lines part.pairs rest)) ≡ true =
      sets_pass part.sets (k + 1) None (pair_lines part.pairs rest) (rw less it.0)
      (λ other. pairs_begin part.pairs (k + 1) other rest it.1 deeper) in (
        λ last. rw (number_same (k + 1), is_below k (length alls) low) opened,
        λ u v. rw (number_same (k + 1), is_below k (length alls) low) opened,
      )

  opened_passes : (parts : List Written) → PartsFit alls parts → passes alls Opened (part_lines 1 parts []) ≡ true
  opened_passes [] fit = subst (λ (n : ℕ). (n == 0) ≡ true) (sym (whole_of 0 (omega arith) fit)) refl
  opened_passes (part ∷ parts) fit = (parts_pass (part ∷ parts) 0 (omega arith) fit).0 None

  pub parts_are_passed : (parts : List Written) → PartsFit alls parts → passes alls Start (lines_of_parts parts) ≡ true
  parts_are_passed parts fit = opened_passes parts fit

  -- from a section of a lattice that there is, some lines pass
  abbrev pub begun : Section → ℕ
  begun Start = 0
  begun Opened = 0
  begun (InSets k last) = k
  begun (InPairs k u v) = k

  abbrev blanks : List ℕ → List Written
  blanks [] = []
  blanks (all ∷ alls) = record { sets = []; pairs = [] } ∷ blanks alls

  blanks_fit : (some : List ℕ) → PartsFit some (blanks some)
  blanks_fit [] = tt
  blanks_fit (all ∷ some) = (tt, tt, blanks_fit some)

  pub completes : (section : Section) → begun section ≤ length alls
      → (behind : List Line) × (passes alls section behind ≡ true)
  completes Start within = (lines_of_parts (blanks alls), parts_are_passed (blanks alls) (blanks_fit alls))
  completes Opened within = (part_lines 1 (blanks alls) [], opened_passes (blanks alls) (blanks_fit alls))
  completes (InSets k last) within = (
    part_lines (k + 1) (blanks (drop k alls)) [],
    (parts_pass (blanks (drop k alls)) k within (blanks_fit (drop k alls))).0 last,
  )
  completes (InPairs k u v) within = (
    part_lines (k + 1) (blanks (drop k alls)) [],
    (parts_pass (blanks (drop k alls)) k within (blanks_fit (drop k alls))).1 u v,
  )

  -- a line leads to a section of a lattice that there is
  by_some : {A : Type 0} → (section to : Section) (b : Bool) → cond b (Some section) None ≡ Some to
      → (b ≡ true → section ≡ to → A) → A
  by_some section to true h then_ = then_ refl cc
  by_some section to false h then_ = absurd cc

  lattice_begun : (k n : ℕ) (to : Section)
      → cond ((n == k + 1) && nat_lt k (length alls)) (Some (InSets n None)) None ≡ Some to → begun to ≤ length alls
  lattice_begun k n to h = by_some (InSets n None) to ((n == k + 1) && nat_lt k (length alls)) h
      (λ test is. both_true (n == k + 1) (nat_lt k (length alls)) test
      (λ same low. subst (λ (s : Section). begun s ≤ length alls) is
      (omega (arith, same_number n (k + 1) same, below_is k (length alls) low))))

  pub begun_behind : (section to : Section) (line : Line) → begun section ≤ length alls
      → next alls section line ≡ Some to → begun to ≤ length alls
  begun_behind Start to Certificate within h =
      let is : Opened ≡ to = cc in
      subst (λ (s : Section). begun s ≤ length alls) is (omega arith)
  begun_behind Start to (Lattice n) within h = absurd cc
  begun_behind Start to (Set name first second) within h = absurd cc
  begun_behind Start to (Pair u v) within h = absurd cc
  begun_behind Start to Other within h = absurd cc
  begun_behind Opened to Certificate within h = absurd cc
  begun_behind Opened to (Lattice n) within h = lattice_begun 0 n to h
  begun_behind Opened to (Set name first second) within h = absurd cc
  begun_behind Opened to (Pair u v) within h = absurd cc
  begun_behind Opened to Other within h = absurd cc
  begun_behind (InSets k last) to Certificate within h = absurd cc
  begun_behind (InSets k last) to (Lattice n) within h = lattice_begun k n to h
  begun_behind (InSets k last) to (Set name first second) within h =
      by_some (InSets k (Some name)) to (name_behind last name && sets_fit (slice_index alls (k - 1)) first second) h
      (λ test is. subst (λ (s : Section). begun s ≤ length alls) is within)
  begun_behind (InSets k last) to (Pair u v) within h =
      let is : InPairs k u v ≡ to = cc in
      subst (λ (s : Section). begun s ≤ length alls) is within
  begun_behind (InSets k last) to Other within h = absurd cc
  begun_behind (InPairs k x y) to Certificate within h = absurd cc
  begun_behind (InPairs k x y) to (Lattice n) within h = lattice_begun k n to h
  begun_behind (InPairs k x y) to (Set name first second) within h = absurd cc
  begun_behind (InPairs k x y) to (Pair u v) within h =
      by_some (InPairs k u v) to (pair_behind (Some (x, y)) (u, v)) h
      (λ test is. subst (λ (s : Section). begun s ≤ length alls) is within)
  begun_behind (InPairs k x y) to Other within h = absurd cc
