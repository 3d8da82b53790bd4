-- The groups of an index word, as cutting at each `_` gives them.
use Rattle.std.proofs.Common.{◌≡◌, ◌≢◌, ℕ, true, false, eqb, ◌<◌, ◌≤◌, zero, suc, take, List, [], ◌∷◌, ◌++◌, length, get_or, map, refl, sym, ap, ◌∙◌, subst, ⊎_elim, arith, All}
use Rattle.std.specs.List.{AllZip, flat_map, onto_first, slice_split}
use Rattle.std.proofs.lemmas.Bool.{ne_eqb}
use Rattle.std.proofs.lemmas.Bool.Decides.{eqb_tells}
use Rattle.std.proofs.lemmas.List.{append-nil}
use Rattle.std.proofs.lemmas.List.Elements.{All-cons, All-head, All-tail, All-nil, All-weaker}
use Rattle.std.proofs.lemmas.List.Splits.{slice_split_at, slice_split_none, slice_split-cons_yes, slice_split-cons_no}
use Rattle.index_words.specs.Words.{AreDifferent, IsDigit, IsIndexWord, IsNumeral, group, most_index, number_of}
use Rattle.cq_prelude.specs.Rules.{IsSetOf}
use Rattle.cq_prelude.specs.Written.{Arranges, IsWritten, SayAll, is_low_line}

onto : (c : ℕ) (rest : List ℕ) (parts : List (List ℕ)) → flat_map group parts ≡ 95 ∷ rest →
    flat_map group (onto_first c parts) ≡ 95 ∷ c ∷ rest
onto c rest [] is = cc
onto c rest (part ∷ parts) is = ap (λ (bytes : List ℕ). 95 ∷ c ∷ bytes) (cc)

-- the parts give the bytes back
flat : (bytes : List ℕ) → flat_map group (slice_split is_low_line bytes) ≡ 95 ∷ bytes
flat [] = refl
flat (c ∷ bytes) = ⊎_elim
    (λ (same : (eqb c 95 ≡ true) × (c ≡ 95)).
    rw (slice_split-cons_yes is_low_line c bytes same.0, flat bytes, same.1) refl)
    (λ (other : (eqb c 95 ≡ false) × (c ≢ 95)). rw (slice_split-cons_no is_low_line c bytes other.0)
    (onto c bytes (slice_split is_low_line bytes) (flat bytes)))
    (eqb_tells c 95)

no_low_line : (digits : List ℕ) → IsNumeral digits → All (λ c. is_low_line c ≡ false) digits
no_low_line digits h =
    All-weaker IsDigit (λ c. is_low_line c ≡ false) (λ c is. ne_eqb c 95 (λ same. omega arith)) digits h.decimal

-- groups of digits are the parts again
cut : (digits : List ℕ) (groups : List (List ℕ)) → IsNumeral digits → All IsNumeral groups →
    slice_split is_low_line (digits ++ flat_map group groups) ≡ digits ∷ groups
cut digits [] h all = rw append-nil (slice_split_none is_low_line digits (no_low_line digits h))
cut digits (more ∷ groups) h all =
    slice_split_at is_low_line digits 95 (more ++ flat_map group groups) (no_low_line digits h) refl
    ∙ ap (λ (parts : List (List ℕ)). digits ∷ parts)
    (cut more groups (All-head IsNumeral more groups all) (All-tail IsNumeral more groups all))

-- groups that each say a number are numerals
numerals : (groups : List (List ℕ)) (numbers : List ℕ) → AllZip IsWritten groups numbers → All IsNumeral groups
numerals [] [] h = All-nil IsNumeral
numerals [] (n ∷ ns) h = absurd h
numerals (g ∷ gs) [] h = absurd h
numerals (g ∷ gs) (n ∷ ns) h = All-cons IsNumeral g gs h.0.numeral (numerals gs ns h.1)

-- the numbers that groups say are those of the groups, in order
numbers_are : (groups : List (List ℕ)) (numbers : List ℕ) → AllZip IsWritten groups numbers
    → numbers ≡ map number_of groups
numbers_are [] [] h = refl
numbers_are [] (n ∷ ns) h = absurd h
numbers_are (g ∷ gs) [] h = absurd h
numbers_are (g ∷ gs) (n ∷ ns) h = let first = h.0.says in let rest = numbers_are gs ns h.1 in cc

-- the numbers that groups say are within the limit
within : (groups : List (List ℕ)) (numbers : List ℕ) → AllZip IsWritten groups numbers
    → All (λ n. n ≤ most_index) numbers
within [] [] h = All-nil (λ n. n ≤ most_index)
within [] (n ∷ ns) h = absurd h
within (g ∷ gs) [] h = absurd h
within (g ∷ gs) (n ∷ ns) h = All-cons (λ n. n ≤ most_index) n ns h.0.within (within gs ns h.1)

-- a text that is split has at least one part
some_parts : (bytes : List ℕ) → slice_split is_low_line bytes ≢ []
some_parts bytes is =
    let all = flat bytes in
    let none : flat_map group (slice_split is_low_line bytes) ≡ [] = rw is refl in
    cc

-- a dollar, a low line and bytes that say different numbers are an index word of these
is_word : (bytes numbers : List ℕ) → SayAll bytes numbers → AreDifferent numbers → IsIndexWord (36 ∷ 95 ∷ bytes) numbers
is_word bytes numbers h different = record {
  groups = slice_split is_low_line bytes;
  some = some_parts bytes;
  numerals = numerals _ numbers h;
  spelled = ap (λ (rest : List ℕ). 36 ∷ rest) (sym (flat bytes));
  numbers_are = numbers_are _ numbers h;
  within = within _ numbers h;
  different = different;
}

-- numerals whose numbers are within the limit each say theirs
written : (groups : List (List ℕ)) → All IsNumeral groups → All (λ n. n ≤ most_index) (map number_of groups) →
    AllZip IsWritten groups (map number_of groups)
written [] all low = tt
written (g ∷ gs) all low = (
  record {
    numeral = All-head IsNumeral g gs all;
    says = refl;
    within = All-head (λ n. n ≤ most_index) (number_of g) (map number_of gs) low;
  },
  written gs (All-tail IsNumeral g gs all) (All-tail (λ n. n ≤ most_index) (number_of g) (map number_of gs) low),
)

-- what an index word is spelled with
pub parts_of : (bytes numbers : List ℕ) (h : IsIndexWord bytes numbers)
    → (rest : List ℕ) × (bytes ≡ 36 ∷ 95 ∷ rest) × SayAll rest numbers
parts_of bytes numbers h = parts_from h.groups h.some h.numerals h.spelled h.numbers_are h.within where
  parts_from : (groups : List (List ℕ)) → groups ≢ [] → All IsNumeral groups → bytes ≡ 36 ∷ flat_map group groups →
      numbers ≡ map number_of groups → All (λ n. n ≤ most_index) numbers →
      (rest : List ℕ) × (bytes ≡ 36 ∷ 95 ∷ rest) × SayAll rest numbers
  parts_from [] some all spelled is low = absurd (some refl)
  parts_from (g ∷ gs) some all spelled is low = (
    g ++ flat_map group gs,
    spelled,
    subst (λ (ns : List ℕ). SayAll (g ++ flat_map group gs) ns) (sym is)
        (subst (λ (parts : List (List ℕ)). AllZip IsWritten parts (map number_of (g ∷ gs)))
        (sym (cut g gs (All-head IsNumeral g gs all) (All-tail IsNumeral g gs all)))
        (written (g ∷ gs) all (subst (All (λ n. n ≤ most_index)) is low))),
  )

-- a group that says a number, behind groups that say theirs, gives the numbers with this one at the end
pub more_written : (groups : List (List ℕ)) (numbers : List ℕ) (i : ℕ) (g : List ℕ) (n : ℕ) → i < length groups
    → g ≡ get_or groups i g →
    AllZip IsWritten (take i groups) numbers → IsWritten g n →
    AllZip IsWritten (take (suc i) groups) (numbers ++ n ∷ [])
more_written [] numbers i g n lt is all one = absurd (omega arith)
more_written (first ∷ groups) [] zero g n lt is all one = (subst (λ (digits : List ℕ). IsWritten digits n) is one, tt)
more_written (first ∷ groups) (m ∷ numbers) zero g n lt is all one = absurd all
more_written (first ∷ groups) [] (suc i) g n lt is all one = absurd all
more_written (first ∷ groups) (m ∷ numbers) (suc i) g n lt is all one =
    (all.0, more_written groups numbers i g n (omega arith) is all.1 one)

-- each group says a number
pub one_written : (groups : List (List ℕ)) (numbers : List ℕ) (i : ℕ) (g : List ℕ) → AllZip IsWritten groups numbers
    → i < length groups →
    g ≡ get_or groups i g → (n : ℕ) × IsWritten g n
one_written [] numbers i g all lt is = absurd (omega arith)
one_written (first ∷ groups) [] i g all lt is = absurd all
one_written (first ∷ groups) (m ∷ numbers) zero g all lt is =
    (m, subst (λ (digits : List ℕ). IsWritten digits m) (sym is) all.0)
one_written (first ∷ groups) (m ∷ numbers) (suc i) g all lt is = one_written groups numbers i g all.1 (omega arith) is

-- what a word has behind `$_` says its numbers
pub says_of : (bytes rest numbers : List ℕ) → bytes ≡ 36 ∷ 95 ∷ rest → IsIndexWord bytes numbers → SayAll rest numbers
says_of bytes rest numbers is h =
    let parts = parts_of bytes numbers h in
    let same : parts.0 ≡ rest = let begun = parts.1 in cc in
    subst (λ (behind : List ℕ). SayAll behind numbers) same parts.2

-- the numbers that an index word says differ from each other
pub says_different : (bytes rest ours theirs : List ℕ) → bytes ≡ 36 ∷ 95 ∷ rest → SayAll rest ours
    → IsIndexWord bytes theirs →
    AreDifferent ours
says_different bytes rest ours theirs is h word =
    subst AreDifferent
    (numbers_are _ theirs (says_of bytes rest theirs is word) ∙ sym (numbers_are _ ours h)) word.different

-- an index word that says different numbers says the set of them in ascending order
pub set_of : (bytes rest numbers set : List ℕ) → bytes ≡ 36 ∷ 95 ∷ rest → SayAll rest numbers → Arranges numbers set
    → IsSetOf bytes set
set_of bytes rest numbers set is h arranged = record {
  written = numbers;
  spelled = subst (λ (all : List ℕ). IsIndexWord all numbers) (sym is) (is_word rest numbers h arranged.different);
  same = arranged.same;
  ascending = arranged.ascending;
}
