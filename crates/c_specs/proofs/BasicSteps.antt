-- One more word of a basic type.
use Rattle.std.proofs.Common.{arith, ◌≡◌, ℕ, ◌+◌, ◌≤◌, nat_eq, Bool, true, false, List, [], ◌∷◌, ◌++◌, length, Option, Some, None, MatchOption, inl, inr, refl, sym, ◌∙◌, ap, subst, if◌then◌else◌}
use Rattle.std.specs.Prelude.{IsPermutation, option_and_then}
use Rattle.std.proofs.lemmas.List.Sorted.{sum_by-IsPermutation, IsPermutation-push_more, IsPermutation-insert, IsPermutation-middle, IsPermutation-append_left, IsPermutation-append_right, IsPermutation-trans, IsPermutation-sym}
use Rattle.c_words.specs.declared.kinds.Keyword.{Keyword}
use Rattle.c_words.specs.declared.kinds.Keyword.TheVariants as words
use Rattle.c_tree.specs.Specifiers.{basic_types}
use Rattle.c_specs.specs.declared.basic.Base.{Base}
use Rattle.c_specs.specs.declared.basic.Mark.{Mark}
use Rattle.c_specs.specs.declared.basic.Core.{Core}
use Rattle.c_specs.specs.declared.basic.Part.{Part}
use Rattle.c_specs.specs.declared.basic.Part.TheVariants as parts
use Rattle.c_specs.specs.declared.mix.Types.{Types}
use Rattle.c_specs.specs.declared.mix.Types.TheVariants.{Words, Named}
use Rattle.c_specs.specs.Basic.{part_of, mark_words, core_word, base_words, words_of, join, marked, fits}
use Rattle.c_specs.specs.Mix.{fitting, with_mark, fitting_in, with_core, with_part}
use Rattle.c_specs.specs.Reading.{IsTypeOf, TypesAre}
use Rattle.c_specs.proofs.Counting.{count, begins, not_begun, more_words_count}
use Rattle.c_specs.proofs.Codes.{type_code}
use Rattle.c_specs.proofs.BasicTable.{fits_tells, Marked, marked_is, other_word, room, Joined, joined}

-- no type begins so
abbrev pub NoType : ℕ → List Keyword → Type 0
NoType n ks = (m : ℕ) (more : List Keyword) → IsTypeOf (n + m) (ks ++ more) → ⊥

abbrev pub Steps : ℕ → List Keyword → Option Types → Type 0
Steps n ks o = MatchOption o (NoType n ks) (λ t. TypesAre t n ks)

-- what a keyword is
abbrev PartIs : Keyword → Part → Type 0
PartIs k (parts.Mark m) = mark_words m ≡ k ∷ []
PartIs k (parts.Core c) = core_word c ≡ k
PartIs k parts.Other = type_code k ≡ 0

-- words that no set begins with stand among others
no_type : (ws all : List Keyword) → begins type_code basic_types ws ≡ false → 1 ≤ length all
    → ((n : ℕ) → count type_code n ws ≤ count type_code n all) → NoType 0 all
no_type ws all none some fewer m more (inl (is, any)) =
    not_begun type_code basic_types ws (all ++ more) none (λ n. let f = fewer n in
    let e = more_words_count type_code n all more in omega arith) any
no_type ws [] none some fewer m more (inr (is, empty)) = absurd (omega arith)
no_type ws (k ∷ ks) none some fewer m more (inr (is, empty)) = absurd cc

-- each keyword is the mark, the core word or the other word that its part says
part_is : (k : Keyword) → PartIs k (part_of k)
part_is words.Signed = refl
part_is words.Unsigned = refl
part_is words.Complex = refl
part_is words.AnyComplex = refl
part_is words.Void = refl
part_is words.Bool = refl
part_is words.BaseWord = refl
part_is words.Char = refl
part_is words.Int = refl
part_is words.Int128 = refl
part_is words.Short = refl
part_is words.Long = refl
part_is words.Float = refl
part_is words.Double = refl
part_is _ = refl

some_last : (ks : List Keyword) (k : Keyword) → 1 ≤ length (ks ++ k ∷ [])
some_last [] k = omega arith
some_last (x ∷ ks) k = omega arith

-- the words of a base and a mark are those of a type so far where they fit, and else no type begins so
fit_right : (b : Base) (m : Mark) (ks : List Keyword) → IsPermutation ks (words_of b m) → 1 ≤ length ks
    → Steps 0 ks (fitting b m)
fit_right b m ks here some = by_fit (fits b m) refl
  where
    by_fit : (x : Bool) → fits b m ≡ x → Steps 0 ks (if x then Some (Words b m) else None)
    by_fit true e = (refl, e, here)
    by_fit false e =
        no_type (words_of b m) ks (fits_tells b m ∙ e) some (λ n. let same =
        sum_by-IsPermutation (λ k. if nat_eq (type_code k) n then 1 else 0) ks (words_of b m) here in omega arith)

counted : (b : Base) (m : Mark) (ks : List Keyword) (n : ℕ) → IsPermutation ks (words_of b m)
    → count type_code n ks ≡ count type_code n (mark_words m) + count type_code n (base_words b)
counted b m ks n here =
    sym (sum_by-IsPermutation (λ k. if nat_eq (type_code k) n then 1 else 0) ks (words_of b m) here)
    ∙ more_words_count type_code n (mark_words m) (base_words b)

-- a core word more gives the types so far that it joins to, or none where no type begins so
core_right : (b : Base) (m : Mark) (c : Core) (ks : List Keyword) → IsPermutation ks (words_of b m)
    → Steps 0 (ks ++ core_word c ∷ []) (with_core b m c)
core_right b m c ks here = by_join (join b c) (joined b c)
  where
    by_join : (o : Option Base) → Joined b c o → Steps 0 (ks ++ core_word c ∷ []) (fitting_in o m)
    by_join None none =
        no_type (base_words b ++ core_word c ∷ []) (ks ++ core_word c ∷ []) none (some_last ks (core_word c)) (λ n.
        let whole = more_words_count type_code n ks (core_word c ∷ []) in
        let part = more_words_count type_code n (base_words b) (core_word c ∷ []) in
        let same = counted b m ks n here in
        omega arith)
    by_join (Some after) is =
        fit_right after m (ks ++ core_word c ∷ [])
        (IsPermutation-push_more ks (words_of b m) (words_of after m) (core_word c) here
        (IsPermutation-trans (core_word c ∷ words_of b m) (mark_words m ++ core_word c ∷ base_words b)
        (words_of after m)
        (IsPermutation-sym _ _ (IsPermutation-middle (mark_words m) (core_word c) (base_words b)))
        (IsPermutation-append_right (mark_words m) (core_word c ∷ base_words b) (base_words after)
        (subst (λ l. IsPermutation (core_word c ∷ base_words b) l) is
        (IsPermutation-insert (base_words b) (room b c) (core_word c)))))) (some_last ks (core_word c))

-- no type begins with words that have a mark and a second one that goes in no set with it
second_mark : (b : Base) (m q : Mark) (k : Keyword) (ks : List Keyword) → mark_words q ≡ k ∷ []
    → begins type_code basic_types (mark_words m ++ mark_words q) ≡ false → IsPermutation ks (words_of b m)
    → NoType 0 (ks ++ k ∷ [])
second_mark b m q k ks is none here = no_type (mark_words m ++ mark_words q) (ks ++ k ∷ []) none (some_last ks k) (λ n.
    let whole = more_words_count type_code n ks (k ∷ []) in
    let part = more_words_count type_code n (mark_words m) (mark_words q) in
    let same = counted b m ks n here in
    let last = ap (count type_code n) is in
    omega arith)

-- a mark more gives the types so far that it joins to, or none where no type begins so
mark_right : (b : Base) (m q : Mark) (k : Keyword) (ks : List Keyword) → mark_words q ≡ k ∷ []
    → IsPermutation ks (words_of b m) → Steps 0 (ks ++ k ∷ []) (with_mark b m q)
mark_right b m q k ks is here = by_marked (marked m q) (marked_is m q (ap length is))
  where
    by_marked : (o : Option Mark) → Marked m q o → Steps 0 (ks ++ k ∷ []) (option_and_then (fitting b) o)
    by_marked None none = second_mark b m q k ks is none here
    by_marked (Some both) same =
        let front : IsPermutation (k ∷ mark_words m) (mark_words both) =
        subst (λ l. IsPermutation (l ++ mark_words m) (mark_words both)) is same in
        fit_right b both (ks ++ k ∷ []) (IsPermutation-push_more ks (words_of b m) (words_of b both) k here
        (IsPermutation-append_left (base_words b) (k ∷ mark_words m) (mark_words both) front)) (some_last ks k)

-- no type begins with words of which the last is none of a basic type
other_right : (k : Keyword) (ks : List Keyword) → type_code k ≡ 0 → NoType 0 (ks ++ k ∷ [])
other_right k ks is = no_type (words.While ∷ []) (ks ++ k ∷ []) other_word (some_last ks k) (λ n.
    let whole = more_words_count type_code n ks (k ∷ []) in
    let last : count type_code n (k ∷ []) ≡ count type_code n (words.While ∷ []) =
    ap (λ (c : ℕ). 0 + (if nat_eq c n then 1 else 0)) is in
    omega arith)

-- one more word of a basic type
pub steps_right : (t : Types) (k : Keyword) (n : ℕ) (ks : List Keyword) → TypesAre t n ks
    → Steps n (ks ++ k ∷ []) (with_part t (part_of k))
steps_right Named k n ks (one, none) = λ m more h. elim h [
  | inl nought ↦ absurd (let z = nought.0 in omega arith)
  | inr last ↦ absurd (let e : k ∷ more ≡ [] = subst (λ us. (us ++ k ∷ []) ++ more ≡ []) none last.1 in cc)
]
steps_right (Words b m) k n ks (is, fit, here) = rw is (by_part (part_of k) (part_is k))
  where
    by_part : (p : Part) → PartIs k p → Steps 0 (ks ++ k ∷ []) (with_part (Words b m) p)
    by_part (parts.Mark q) e = mark_right b m q k ks e here
    by_part (parts.Core c) e = subst (λ w. Steps 0 (ks ++ w ∷ []) (with_core b m c)) e (core_right b m c ks here)
    by_part parts.Other e = other_right k ks e
