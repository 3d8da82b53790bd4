-- The bytes of an index word say one set of numbers, which is one list where it ascends.
use Rattle.std.proofs.Common.{◌≡◌, ◌↔◌, ℕ, zero, suc, ◌<◌, ◌≤◌, eqb, Bool, false, List, [], ◌∷◌, ◌++◌, length, map, All, Contains, refl, sym, ◌∙◌, ap, subst, arith}
use Rattle.std.specs.Prelude.{slice_index_or}
use Rattle.std.specs.List.{flat_map, slice_split}
use Rattle.std.proofs.lemmas.Bool.{ne_eqb}
use Rattle.std.proofs.lemmas.List.{append-nil}
use Rattle.std.proofs.lemmas.List.Elements.{All-head, All-tail, All-weaker}
use Rattle.std.proofs.lemmas.List.Splits.{slice_split_at, slice_split_none}
use Rattle.index_words.specs.Marks.{AreAscending}
use Rattle.index_words.specs.Words.{IsDigit, IsIndexWord, IsNumeral, group, number_of}
use Rattle.outcome_laws.specs.Indices.{OneSetOfIndices}

-- the groups of an index word are what cutting at each `_` gives

abbrev is_low_line : ℕ → Bool
is_low_line c = eqb c 95

no_low_line : (digits : List ℕ) → IsNumeral digits → All (λ c. is_low_line c ≡ false) digits
no_low_line digits h =
    All-weaker IsDigit (λ c. is_low_line c ≡ false) (λ c is. ne_eqb c 95 (λ same. omega arith)) digits h.decimal

-- digits and groups behind them, each with a low line before it, are cut at the low lines into these parts
cut : (digits : List ℕ) (groups : List (List ℕ)) → IsNumeral digits → All IsNumeral groups →
    slice_split is_low_line (digits ++ flat_map group groups) ≡ digits ∷ groups
cut digits [] h all = rw append-nil (slice_split_none is_low_line digits (no_low_line digits h))
cut digits (more ∷ groups) h all =
    slice_split_at is_low_line digits 95 (more ++ flat_map group groups) (no_low_line digits h) refl
    ∙ ap (λ (parts : List (List ℕ)). digits ∷ parts)
    (cut more groups (All-head IsNumeral more groups all) (All-tail IsNumeral more groups all))

-- groups of numerals that are spelled by the same bytes are the same groups
groups_once : (one other : List (List ℕ)) → All IsNumeral one → All IsNumeral other
    → flat_map group one ≡ flat_map group other → one ≡ other
groups_once [] [] all each same = refl
groups_once [] (y ∷ ys) all each same = absurd cc
groups_once (x ∷ xs) [] all each same = absurd cc
groups_once (x ∷ xs) (y ∷ ys) all each same =
    let rest : x ++ flat_map group xs ≡ y ++ flat_map group ys = cc in
    sym (cut x xs (All-head IsNumeral x xs all) (All-tail IsNumeral x xs all))
    ∙ ap (λ (bytes : List ℕ). slice_split is_low_line bytes) rest
    ∙ cut y ys (All-head IsNumeral y ys each) (All-tail IsNumeral y ys each)

-- two readings of the bytes of an index word give the same list of numbers
words_once : (bytes one other : List ℕ) → IsIndexWord bytes one → IsIndexWord bytes other → one ≡ other
words_once bytes one other h k =
    let both : 36 ∷ flat_map group h.groups ≡ 36 ∷ flat_map group k.groups = sym h.spelled ∙ k.spelled in
    let rest : flat_map group h.groups ≡ flat_map group k.groups = cc in
    h.numbers_are
    ∙ ap (λ (groups : List (List ℕ)). map number_of groups) (groups_once h.groups k.groups h.numerals k.numerals rest)
    ∙ sym k.numbers_are

-- ascending lists with the same members

-- in an ascending list each number behind the first is above it
above : (n : ℕ) (ns : List ℕ) → AreAscending (n ∷ ns) → (m k : ℕ) → k < length ns → slice_index_or ns k m ≡ m → n < m
above n [] up m k less is = absurd (omega (arith, less))
above n (x ∷ xs) up m zero less is = omega (arith, up.0, is)
above n (x ∷ xs) up m (suc k) less is =
    let more = above x xs up.1 m k (omega (arith, less)) is in
    omega (arith, more, up.0)

behind_up : (n : ℕ) (ns : List ℕ) → AreAscending (n ∷ ns) → AreAscending ns
behind_up n [] up = tt
behind_up n (x ∷ xs) up = up.1

no_less : (n : ℕ) (ns : List ℕ) → AreAscending (n ∷ ns) → (m k : ℕ) → k < length (n ∷ ns)
    → slice_index_or (n ∷ ns) k m ≡ m → n ≤ m
no_less n ns up m zero less is = omega (arith, is)
no_less n ns up m (suc k) less is = let more = above n ns up m k (omega (arith, less)) is in omega (arith, more)

further : (n : ℕ) (ns : List ℕ) (m k : ℕ) → n < m → k < length (n ∷ ns) → slice_index_or (n ∷ ns) k m ≡ m
    → Contains ns m
further n ns m zero over less is = absurd (omega (arith, is, over))
further n ns m (suc k) over less is = (k, omega (arith, less), is)

none_there : (m : ℕ) → Contains [] m → ⊥
none_there m has = omega (arith, has.1)

-- two ascending lists with the same members are one list
ascending_once : (one other : List ℕ) → AreAscending one → AreAscending other
    → ((n : ℕ) → Contains one n ↔ Contains other n) → one ≡ other
ascending_once [] [] up rising same = refl
ascending_once [] (y ∷ ys) up rising same = absurd (none_there y ((same y).1 (zero, omega arith, refl)))
ascending_once (x ∷ xs) [] up rising same = absurd (none_there x ((same x).0 (zero, omega arith, refl)))
ascending_once (x ∷ xs) (y ∷ ys) up rising same =
    let there : Contains (y ∷ ys) x = (same x).0 (zero, omega arith, refl) in
    let here : Contains (x ∷ xs) y = (same y).1 (zero, omega arith, refl) in
    let low = no_less y ys rising x there.0 there.1 there.2 in
    let high = no_less x xs up y here.0 here.1 here.2 in
    let head : x ≡ y = omega (arith, low, high) in
    let tail : xs ≡ ys = ascending_once xs ys (behind_up x xs up) (behind_up y ys rising) (λ n. (
      λ has.
          let found : Contains (y ∷ ys) n = (same n).0 (suc has.0, omega (arith, has.1), has.2) in
          let over = above x xs up n has.0 has.1 has.2 in
          further y ys n found.0 (omega (arith, over, head)) found.1 found.2,
      λ has.
          let found : Contains (x ∷ xs) n = (same n).1 (suc has.0, omega (arith, has.1), has.2) in
          let over = above y ys rising n has.0 has.1 has.2 in
          further x xs n found.0 (omega (arith, over, head)) found.1 found.2,
    )) in
    λ i. head i ∷ tail i

-- the bytes of an index word say one ascending list of numbers
pub one_set_of_indices : OneSetOfIndices
one_set_of_indices bytes set other h k =
    let words = words_once bytes h.written k.written h.spelled k.spelled in
    ascending_once set other h.ascending k.ascending (λ n. (
      λ has. (k.same n).1 (subst (λ (ns : List ℕ). Contains ns n) words ((h.same n).0 has)),
      λ has. (h.same n).1 (subst (λ (ns : List ℕ). Contains ns n) (sym words) ((k.same n).0 has)),
    ))
