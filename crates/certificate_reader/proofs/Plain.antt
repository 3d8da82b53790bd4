-- The text of certificates has the lines of them, and each names variables.
use Rattle.std.proofs.Common.{◌≡◌, ℕ, zero, suc, ◌+◌, ◌-◌, ◌/◌, ◌%◌, ◌^◌, ◌<◌, ◌≤◌, ◌==◌, Bool, true, false, nat_lt, List, [], ◌∷◌, ◌++◌, length, map, slice_get, slice_index, Option, Some, None, refl, sym, ◌∙◌, ap, subst, arith, cond, inl, inr, pow_mono}
use Rattle.std.specs.Int.{bit_at}
use Rattle.std.proofs.lemmas.Bool.{cases_lt, and_from}
use Rattle.std.proofs.lemmas.Nat.{div-add-mod', pow_pos}
use Rattle.std.proofs.Math.Nat.{mod-lt}
use Rattle.std.proofs.lemmas.Nat.Bits.{bit_at-lt, bit_at_above, bit_at_cat_low, same_from_bits}
use Rattle.std.proofs.lemmas.Option.{slice_get_within}
use Rattle.lattice_core.specs.Order.{Order, size}
use Rattle.flow_graph.specs.System.{System, most_constraints}
use Rattle.closure_check.specs.declared.part.Part.{Part}
use Rattle.closure_check.specs.Parts.{IsPart, has}
use Rattle.closure_check.proofs.BitSets.{of_bit}
use Rattle.closure_check.proofs.Sorted.{before_to}
use Rattle.certificate_text.specs.declared.putting.SetLine.{SetLine}
use Rattle.certificate_text.specs.Names.{Named, ends_in, name_of, is_at, names_in}
use Rattle.certificate_text.specs.Text.{Written, set_of, sets_of, pairs_of, written}
use Rattle.certificate_text.proofs.EndLemmas.{ends_length}
use Rattle.certificate_text.proofs.Rising.{Among, Rises, among_either, among_left, among_right}
use Rattle.certificate_text.proofs.Written.{Lower, Earlier, first_is, names_are, names_rise, pairs_rise, written_pair}
use Rattle.certificate_reader.specs.declared.lines.Line.{Line}
use Rattle.certificate_reader.specs.Lines.{lines_of}
use Rattle.certificate_reader.specs.Grammar.{all_of, alls_of, set_lines, pair_lines, part_lines, lines_of_parts, name_behind, pair_behind, sets_fit, SetsFit, PairsFit, PartsFit, IsShaped, names_at, is_name, AreKnown, ArePlain, ReadsAs}
use Rattle.certificate_reader.specs.Laws.{IsBounded}
use Rattle.certificate_reader.proofs.Spelled.{most_names, IsSmall, AreSmallSets, AreSmallPairs, AreSmallParts, text_lines}

-- a set of elements below a number is below its power of two
bits_same : (set k : ℕ) → ((e : ℕ) → has set e ≡ true → e < k) → (e : ℕ) → bit_at (set % 2 ^ k) e ≡ bit_at set e
bits_same set k low e = elim (cases_lt e k) [
  | inl here ↦ sym (bit_at_cat_low (set / 2 ^ k) k (set % 2 ^ k) e here)
      ∙ ap (λ (n : ℕ). bit_at n e) (div-add-mod' set (2 ^ k))
  | inr above ↦ bit_at_above (set % 2 ^ k) k e (mod-lt set (pow_pos k)) above
      ∙ sym (none above (bit_at set e) refl (bit_at-lt set e))
]
  where
    none : k ≤ e → (b : ℕ) → bit_at set e ≡ b → b < 2 → bit_at set e ≡ 0
    none above zero is small = is
    none above (suc zero) is small = absurd (omega (arith, low e (of_bit set e is), above))
    none above (suc (suc b)) is small = absurd (omega (arith, small))

pub below_power : (set k : ℕ) → ((e : ℕ) → has set e ≡ true → e < k) → set < 2 ^ k
below_power set k low =
    subst (λ (n : ℕ). n < 2 ^ k) (same_from_bits (set % 2 ^ k) set (bits_same set k low)) (mod-lt set (pow_pos k))

-- the sets of a line are those of a variable among names
pub record IsSetOf (part : Part) (names : List Named) (it : SetLine) : Type 0 where
  pub x : Named
  pub there : Among x names
  pub is : it ≡
      record { name = x.name; first = slice_index part.first.items x.var; second = slice_index part.second.items x.var }
  pub some : (slice_index part.second.items x.var == 0) ≡ false

-- a set line of a part has a name of the list and that variable's sets, the second of which is not empty
pub set_from : (part : Part) (names : List Named) (it : SetLine) → Among it (sets_of part names) → IsSetOf part names it
set_from part [] it there = absurd there
set_from part (x ∷ names) it there = elim (among_either (set_of part x) (sets_of part names) it there) [
  | inl here ↦ now (slice_index part.second.items x.var == 0) refl here
  | inr later ↦
      let deeper = set_from part names it later in
      record { x = deeper.x; there = inr deeper.there; is = deeper.is; some = deeper.some }
]
  where
    now : (b : Bool) → (slice_index part.second.items x.var == 0) ≡ b →
        Among it (cond b [] (record {
          name = x.name;
          first = slice_index part.first.items x.var;
          second = slice_index part.second.items x.var;
        } ∷ [])) → IsSetOf part (x ∷ names) it
    now true none there = absurd there
    now false some (inl is) = record { x = x; there = inl refl; is = is; some = some }
    now false some (inr there) = absurd there

-- a named variable whose second set is not empty has its line among the set lines of the part
pub set_to : (part : Part) (names : List Named) (x : Named) → Among x names
    → (slice_index part.second.items x.var == 0) ≡ false →
    Among {A = SetLine}
    (record { name = x.name; first = slice_index part.first.items x.var; second = slice_index part.second.items x.var })
    (sets_of part names)
set_to part [] x there some = absurd there
set_to part (y ∷ names) x (inl same) some = among_left (set_of part y) (sets_of part names) _
    (subst (λ (z : Named). Among {A = SetLine}
    (record { name = x.name; first = slice_index part.first.items x.var; second = slice_index part.second.items x.var })
    (set_of part z)) same (own (slice_index part.second.items x.var == 0) some))
  where
    own : (b : Bool) → b ≡ false →
        Among {A = SetLine} (record {
          name = x.name;
          first = slice_index part.first.items x.var;
          second = slice_index part.second.items x.var;
        })
        (cond b [] (record {
          name = x.name;
          first = slice_index part.first.items x.var;
          second = slice_index part.second.items x.var;
        } ∷ []))
    own true e = absurd cc
    own false e = inl refl
set_to part (y ∷ names) x (inr later) some =
    among_right (set_of part y) (sets_of part names) _ (set_to part names x later some)

-- sets below a power fit
fits_below : (p first second : ℕ) → first < p → second < p → (second == 0) ≡ false
    → sets_fit (p - 1) first second ≡ true
fits_below p first second one other some =
    let high : nat_lt (p - 1) first ≡ false = grind (arith, one) in
    let also : nat_lt (p - 1) second ≡ false = grind (arith, other) in
    rw (some, high, also) refl

behind_low : (last name : ℕ) → last < name → name_behind (Some last) name ≡ true
behind_low last name low = grind (arith, low)

-- the sets of names in order fit
sets_fit_of : (all : ℕ) (part : Part) (names : List Named) (last : Option ℕ)
    → ((v : ℕ) → (slice_index part.second.items v == 0) ≡ false
    → sets_fit all (slice_index part.first.items v) (slice_index part.second.items v) ≡ true) →
    Rises Lower names → ((x : Named) → Among x names → name_behind last x.name ≡ true)
    → SetsFit all last (sets_of part names)
sets_fit_of all part [] last fits rise later = tt
sets_fit_of all part (x ∷ names) last fits rise later = by_test (slice_index part.second.items x.var == 0) refl
    (sets_fit_of all part names last fits rise.1 (λ y there. later y (inr there)))
    (sets_fit_of all part names (Some x.name) fits rise.1 (λ y there. behind_low x.name y.name (rise.0 y there)))
  where
    by_test : (b : Bool) → (slice_index part.second.items x.var == 0) ≡ b → SetsFit all last (sets_of part names)
        → SetsFit all (Some x.name) (sets_of part names) →
        SetsFit all last (cond b [] (record {
          name = x.name;
          first = slice_index part.first.items x.var;
          second = slice_index part.second.items x.var;
        } ∷ []) ++ sets_of part names)
    by_test true none over behind = over
    by_test false some over behind = (later x (inl refl), fits x.var some, behind)

-- pairs that rise, each behind the last that was read, fit behind it
pairs_fit_of : (ps : List (ℕ × ℕ)) (last : Option (ℕ × ℕ)) → Rises Earlier ps
    → ((p : ℕ × ℕ) → Among p ps → pair_behind last p ≡ true) → PairsFit last ps
pairs_fit_of [] last rise later = tt
pairs_fit_of (p ∷ ps) last rise later =
    (later p (inl refl), pairs_fit_of ps (Some p) rise.1 (λ q there. before_to p q.0 q.1 (rise.0 q there)))

own_end : (n : ℕ) → (n == n) ≡ true
own_end n = grind arith

module _ (sys : System) where
  -- the name of a variable is one
  pub end_of_name : (v n : ℕ) → name_of sys v ≡ Some n → slice_get (ends_in sys) n ≡ Some v
  end_of_name v n is =
      let there = first_is (ends_in sys) 0 v n is in
      let same : n - 0 ≡ n = omega arith in
      subst (λ (k : ℕ). slice_get (ends_in sys) k ≡ Some v) same there.1

  pub name_is : (v n : ℕ) → name_of sys v ≡ Some n → is_name sys n ≡ true
  name_is v n is = ap (names_at sys n) (end_of_name v n is) ∙ ap (λ (o : Option ℕ). is_at o n) is ∙ own_end n

  -- what a name is of
  pub record IsNamed (n : ℕ) : Type 0 where
    pub var : ℕ
    pub end_is : slice_get (ends_in sys) n ≡ Some var
    pub named : name_of sys var ≡ Some n

  at_end : (o : Option ℕ) (n : ℕ) → is_at o n ≡ true → o ≡ Some n
  at_end (Some m) n h = let same : m ≡ n = grind (arith, h) in ap Some same
  at_end None n h = absurd cc

  named_by : (n : ℕ) (o : Option ℕ) → slice_get (ends_in sys) n ≡ o → names_at sys n o ≡ true → IsNamed n
  named_by n (Some v) is h = record { var = v; end_is = is; named = at_end (name_of sys v) n h }
  named_by n None is h = absurd cc

  pub named_of : (n : ℕ) → is_name sys n ≡ true → IsNamed n
  named_of n h = named_by n (slice_get (ends_in sys) n) refl h

  pub small_name : (n : ℕ) → length sys.constraints ≤ most_constraints → is_name sys n ≡ true → n < most_names
  small_name n few h =
      let within = slice_get_within (ends_in sys) n (named_of n h).var (named_of n h).end_is in
      omega (arith, within, few, ends_length sys.constraints)

  -- the names of sets and pairs that are written
  set_named : (part : Part) (it : SetLine) → Among it (sets_of part (names_in sys)) → is_name sys it.name ≡ true
  set_named part it there =
      let from = set_from part (names_in sys) it there in
      let named = (names_are sys (ends_in sys) 0 from.x from.there).1 in
      ap (λ (s : SetLine). is_name sys s.name) from.is ∙ name_is from.x.var from.x.name named

  pair_named : (part : Part) (p : ℕ × ℕ) → Among p (pairs_of part.pairs.items (names_in sys) (names_in sys))
      → (is_name sys p.0 ≡ true) × (is_name sys p.1 ≡ true)
  pair_named part p there =
      let is = written_pair sys part.pairs.items p there in (name_is is.from p.0 is.from_is, name_is is.to p.1 is.to_is)

  sets_known : (sets : List SetLine) (behind : List Line)
      → ((it : SetLine) → Among it sets → is_name sys it.name ≡ true) → AreKnown sys behind
      → AreKnown sys (set_lines sets behind)
  sets_known [] behind named rest = rest
  sets_known (it ∷ sets) behind named rest =
      (named it (inl refl), sets_known sets behind (λ other there. named other (inr there)) rest)

  pairs_known : (pairs : List (ℕ × ℕ)) (behind : List Line)
      → ((p : ℕ × ℕ) → Among p pairs → (is_name sys p.0 ≡ true) × (is_name sys p.1 ≡ true)) → AreKnown sys behind →
      AreKnown sys (pair_lines pairs behind)
  pairs_known [] behind named rest = rest
  pairs_known (pair ∷ pairs) behind named rest =
      let it = named pair (inl refl) in (
        and_from (is_name sys pair.0) (is_name sys pair.1) it.0 it.1,
        pairs_known pairs behind (λ other there. named other (inr there)) rest,
      )

  small_pairs : (pairs : List (ℕ × ℕ)) → ((p : ℕ × ℕ) → Among p pairs → (p.0 < most_names) × (p.1 < most_names))
      → AreSmallPairs pairs
  small_pairs [] small = tt
  small_pairs (pair ∷ pairs) small =
      let it = small pair (inl refl) in
      (it.0, it.1, small_pairs pairs (λ other there. small other (inr there)))

  small_sets : (sets : List SetLine) → ((it : SetLine) → Among it sets → IsSmall it) → AreSmallSets sets
  small_sets [] small = tt
  small_sets (it ∷ sets) small = (small it (inl refl), small_sets sets (λ other there. small other (inr there)))

  -- the certificate of a lattice
  module _ (few : length sys.constraints ≤ most_constraints) (order : Order) (part : Part) (is : IsPart sys order part)
      (fits : size order ≤ 64) where
    firsts_below : (v : ℕ) → slice_index part.first.items v < 2 ^ size order
    firsts_below v = below_power (slice_index part.first.items v) (size order) (λ e there. is.firsts.elements v e there)

    seconds_below : (v : ℕ) → slice_index part.second.items v < 2 ^ size order
    seconds_below v =
        below_power (slice_index part.second.items v) (size order) (λ e there. is.seconds.elements v e there)

    part_sets_fit : SetsFit (all_of order) None (sets_of part (names_in sys))
    part_sets_fit = sets_fit_of (all_of order) part (names_in sys) None
        (λ v some. fits_below (2 ^ size order) (slice_index part.first.items v) (slice_index part.second.items v)
        (firsts_below v) (seconds_below v) some)
        (names_rise sys (ends_in sys) 0) (λ x there. refl)

    part_pairs_fit : PairsFit None (pairs_of part.pairs.items (names_in sys) (names_in sys))
    part_pairs_fit =
        let rise = names_rise sys (ends_in sys) 0 in
        pairs_fit_of _ None (pairs_rise sys part.pairs.items (names_in sys) (names_in sys) rise rise) (λ p there. refl)

    small_set : (it : SetLine) → Among it (sets_of part (names_in sys)) → IsSmall it
    small_set it there =
        let from = set_from part (names_in sys) it there in
        let wide = pow_mono fits in
        record {
          name = small_name it.name few (set_named part it there);
          first =
              subst (λ (s : SetLine). s.first < 2 ^ 64) (sym from.is) (omega (arith, firsts_below from.x.var, wide));
          second =
              subst (λ (s : SetLine). s.second < 2 ^ 64) (sym from.is) (omega (arith, seconds_below from.x.var, wide));
        }

    part_sets_small : AreSmallSets (sets_of part (names_in sys))
    part_sets_small = small_sets (sets_of part (names_in sys)) small_set

    part_pairs_small : AreSmallPairs (pairs_of part.pairs.items (names_in sys) (names_in sys))
    part_pairs_small = small_pairs _
        (λ p there. let named = pair_named part p there in (small_name p.0 few named.0, small_name p.1 few named.1))

    part_known : (behind : List Line) → AreKnown sys behind
        → AreKnown sys (set_lines (sets_of part (names_in sys))
        (pair_lines (pairs_of part.pairs.items (names_in sys) (names_in sys)) behind))
    part_known behind rest =
        sets_known (sets_of part (names_in sys)) _ (set_named part)
        (pairs_known (pairs_of part.pairs.items (names_in sys) (names_in sys)) behind (pair_named part) rest)

  abbrev pub AreFew : List Order → Type 0
  AreFew orders = (n : ℕ) (order : Order) → slice_get orders n ≡ Some order → size order ≤ 64

  abbrev pub writtens : List Part → List Written
  writtens parts = map (λ part. written sys part) parts

  -- the certificates of all lattices
  module _ (few : length sys.constraints ≤ most_constraints) where
    parts_fit : (orders : List Order) (parts : List Part) → AreFew orders → ArePlain sys orders parts
        → PartsFit (alls_of orders) (writtens parts)
    parts_fit [] [] fits plain = tt
    parts_fit [] (part ∷ parts) fits plain = absurd plain
    parts_fit (order ∷ orders) [] fits plain = absurd plain
    parts_fit (order ∷ orders) (part ∷ parts) fits plain = (
      part_sets_fit few order part plain.0 (fits 0 order refl),
      part_pairs_fit few order part plain.0 (fits 0 order refl),
      parts_fit orders parts (λ n other there. fits (suc n) other there) plain.2,
    )

    parts_small : (orders : List Order) (parts : List Part) → AreFew orders → ArePlain sys orders parts
        → AreSmallParts (writtens parts)
    parts_small [] [] fits plain = tt
    parts_small [] (part ∷ parts) fits plain = absurd plain
    parts_small (order ∷ orders) [] fits plain = absurd plain
    parts_small (order ∷ orders) (part ∷ parts) fits plain = (
      part_sets_small few order part plain.0 (fits 0 order refl),
      part_pairs_small few order part plain.0 (fits 0 order refl),
      parts_small orders parts (λ n other there. fits (suc n) other there) plain.2,
    )

    parts_known : (orders : List Order) (parts : List Part) (number : ℕ) → AreFew orders → ArePlain sys orders parts
        → AreKnown sys (part_lines number (writtens parts) [])
    parts_known [] [] number fits plain = tt
    parts_known [] (part ∷ parts) number fits plain = absurd plain
    parts_known (order ∷ orders) [] number fits plain = absurd plain
    parts_known (order ∷ orders) (part ∷ parts) number fits plain = (
      refl,
      part_known few order part plain.0 (fits 0 order refl) _
          (parts_known orders parts (number + 1) (λ n other there. fits (suc n) other there) plain.2),
    )

    as_many : (orders : List Order) (parts : List Part) → ArePlain sys orders parts
        → length (writtens parts) ≡ length orders
    as_many [] [] plain = refl
    as_many [] (part ∷ parts) plain = absurd plain
    as_many (order ∷ orders) [] plain = absurd plain
    as_many (order ∷ orders) (part ∷ parts) plain = ap suc (as_many orders parts plain.2)

  module _ (orders : List Order) (bytes : List ℕ) (parts : List Part) (bounded : IsBounded sys orders)
      (reads : ReadsAs sys orders bytes parts) where
    -- the lines of a text are those of the certificates that it reads as
    pub read_lines : lines_of bytes ≡ lines_of_parts (writtens parts)
    read_lines =
        let many = as_many bounded.constraints orders parts reads.1 in
        ap lines_of reads.0 ∙ text_lines (writtens parts)
        (parts_small bounded.constraints orders parts bounded.elements reads.1) (omega (arith, many, bounded.lattices))

    pub read_shaped : IsShaped orders (lines_of bytes)
    read_shaped = record {
      parts = writtens parts;
      fit = parts_fit bounded.constraints orders parts bounded.elements reads.1;
      lines_are = read_lines;
    }

    pub read_known : AreKnown sys (lines_of bytes)
    read_known =
        subst (λ (ls : List Line). AreKnown sys ls) (sym read_lines)
        (refl, parts_known bounded.constraints orders parts 1 bounded.elements reads.1)
