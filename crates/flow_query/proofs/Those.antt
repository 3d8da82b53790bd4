-- Ascending lists of the numbers that have a property, and what is written of each number where nothing is of all
-- others.
use Rattle.std.proofs.Common.{◌≡◌, ℕ, zero, suc, ◌+◌, ◌-◌, ◌<◌, ◌≤◌, ◌⊎◌, inl, inr, List, [], ◌∷◌, ◌++◌, length, get_or, slice_get, Some}
use Rattle.std.proofs.Common.{append-nil, refl, sym, ◌∙◌, ap, subst, arith}
use Rattle.std.specs.List.{Contains}
use Rattle.std.proofs.lemmas.Bool.{cases_lt}
use Rattle.std.proofs.lemmas.List.Elements.{Contains-append_cases, Contains-append_left, Contains-append_right}
use Rattle.std.proofs.lemmas.Option.{slice_get_within, slice_get-get_or}
use Rattle.qual_base.proofs.Tests.{some_number}
use Rattle.flow_graph.specs.Index.{AreThose}
use Rattle.flow_query.specs.Answers.{EachBelow, NoneBelow, NextBelow}
use Rattle.flow_query.specs.Ends.{AreThoseBelow}

nothing_in : (n : ℕ) → Contains [] n → ⊥
nothing_in n (i, within, is) = omega (arith, within)

only_one : (x n : ℕ) → Contains (x ∷ []) n → x ≡ n
only_one x n (zero, within, is) = is
only_one x n (suc i, within, is) = absurd (omega (arith, within))

-- a list contains what stands at a place of it
contains_at : (numbers : List ℕ) (i n : ℕ) → slice_get numbers i ≡ Some n → Contains numbers n
contains_at numbers i n is =
    let within = slice_get_within numbers i n is in
    (i, within, some_number (sym (slice_get-get_or numbers i n within) ∙ is))

pub at_place : (numbers : List ℕ) (i n : ℕ) → i < length numbers → n ≡ get_or numbers i n → slice_get numbers i ≡ Some n
at_place numbers i n within is = slice_get-get_or numbers i n within ∙ ap (λ (k : ℕ). Some k) (sym is)

-- an entry of numbers in a list with one more at its end was in the list, or is that one at its length
push_cases : (numbers : List ℕ) (x i n : ℕ) → slice_get (numbers ++ x ∷ []) i ≡ Some n
    → (slice_get numbers i ≡ Some n) ⊎ ((i ≡ length numbers) × (x ≡ n))
push_cases [] x zero n is = inr (refl, some_number is)
push_cases [] x (suc i) n is = absurd cc
push_cases (y ∷ numbers) x zero n is = inl is
push_cases (y ∷ numbers) x (suc i) n is = elim (push_cases numbers x i n is) [
  | inl old ↦ inl old
  | inr new ↦ inr (ap (λ (k : ℕ). suc k) new.0, new.1)
]

-- ---- lists of numbers

module _ (Has : ℕ → Type 0) where
  pub those_none : AreThoseBelow Has 0 []
  those_none = record {
    only = λ n there. absurd (nothing_in n there);
    all = λ n has. let low = has.0 in absurd (omega (arith, low));
    ascending = λ i j a b lt first second. absurd cc;
  }

  module _ (n : ℕ) (numbers : List ℕ) (those : AreThoseBelow Has n numbers) where
    pub those_same : (Has n → ⊥) → AreThoseBelow Has (n + 1) numbers
    those_same none = record {
      only = λ m there. let own = those.only m there in let low = own.0 in (omega (arith, low), own.1);
      all = λ m has. elim (cases_lt m n) [
        | inl before ↦ those.all m (before, has.1)
        | inr late ↦
            let low = has.0 in
            let same : m ≡ n = omega (arith, low, late) in
            absurd (none (subst Has same has.1))
      ];
      ascending = those.ascending;
    }

    pub those_push : Has n → AreThoseBelow Has (n + 1) (numbers ++ n ∷ [])
    those_push has = record {
      only = λ m there. elim (Contains-append_cases numbers (n ∷ []) m there) [
        | inl before ↦ let own = those.only m before in let low = own.0 in (omega (arith, low), own.1)
        | inr last ↦ let same : n ≡ m = only_one n m last in (omega (arith, same), subst Has same has)
      ];
      all = λ m own. elim (cases_lt m n) [
        | inl before ↦ Contains-append_left numbers (n ∷ []) m (those.all m (before, own.1))
        | inr late ↦
            let low = own.0 in
            let same : n ≡ m = omega (arith, low, late) in
            Contains-append_right numbers (n ∷ []) m (zero, omega arith, same)
      ];
      ascending = λ i j a b lt first second. elim (push_cases numbers n j b second) [
        | inl old ↦
            let within = slice_get_within numbers j b old in
            elim (push_cases numbers n i a first) [
              | inl both ↦ those.ascending i j a b lt both old
              | inr last ↦ let at = last.0 in absurd (omega (arith, lt, within, at))
            ]
        | inr new ↦
            let end = new.0 in
            elim (push_cases numbers n i a first) [
              | inl before ↦
                  let low = (those.only a (contains_at numbers i a before)).0 in
                  let is = new.1 in
                  omega (arith, low, is)
              | inr last ↦ let at = last.0 in absurd (omega (arith, lt, at, end))
            ]
      ];
    }

    pub those_all : ((m : ℕ) → Has m → m < n) → AreThose Has numbers
    those_all few = record {
      only = λ m there. (those.only m there).1;
      all = λ m has. those.all m (few m has, has);
      ascending = those.ascending;
    }

-- ---- what is written

-- one more than the number before a place, and 0 at the first one
abbrev pub from_place : List ℕ → ℕ → ℕ
from_place numbers zero = 0
from_place numbers (suc place) = get_or numbers place 0 + 1

module _ (Is : ℕ → List ℕ → Type 0) where
  skip_by : (text : List ℕ) (n count : ℕ) → ((k : ℕ) → n ≤ k → k < n + count → Is k []) → EachBelow Is n text
      → EachBelow Is (n + count) text
  skip_by text n zero none each =
      let At : ℕ → Type 0 = λ m. EachBelow Is m text in
      let same : n ≡ n + 0 = omega arith in
      subst At same each
  skip_by text n (suc count) none each =
      let before = skip_by text n count (λ k from below. none k from (omega (arith, below))) each in
      let next = NextBelow (n + count) text [] before (none (n + count) (omega arith) (omega arith)) in
      let Of : List ℕ → Type 0 = λ t. EachBelow Is (n + count + 1) t in
      let At : ℕ → Type 0 = λ m. EachBelow Is m text in
      let step : n + count + 1 ≡ n + suc count = omega arith in
      subst At step (subst Of (append-nil text) next)

  -- where nothing is written of the numbers between
  skip_to : (text : List ℕ) (n m : ℕ) → n ≤ m → ((k : ℕ) → n ≤ k → k < m → Is k []) → EachBelow Is n text
      → EachBelow Is m text
  skip_to text n m most none each =
      let At : ℕ → Type 0 = λ k. EachBelow Is k text in
      let same : n + (m - n) ≡ m = omega (arith, most) in
      subst At same (skip_by text n (m - n) (λ k from below. none k from (omega (arith, below, most))) each)

  -- where nothing is written of any
  pub none_below : (most : ℕ) → ((m : ℕ) → Is m []) → EachBelow Is most []
  none_below most none = skip_to [] 0 most (omega arith) (λ m from below. none m) NoneBelow

  module _ (Has : ℕ → Type 0) (numbers : List ℕ) (those : AreThose Has numbers)
      (none : (m : ℕ) → (Has m → ⊥) → Is m []) where
    -- a number of the list stands behind those before its place
    behind : (place n : ℕ) → slice_get numbers place ≡ Some n → from_place numbers place ≤ n
    behind zero n is = omega arith
    behind (suc place) n is =
        let within = slice_get_within numbers (suc place) n is in
        let before = slice_get-get_or numbers place 0 (omega (arith, within)) in
        let less = those.ascending place (suc place) (get_or numbers place 0) n (omega arith) before is in
        omega (arith, less)

    -- and one that is behind them has no earlier place
    not_before : (place : ℕ) → place ≤ length numbers → (m : ℕ) → from_place numbers place ≤ m → (i : ℕ) → i < place
        → slice_get numbers i ≡ Some m → ⊥
    not_before zero within m from i before is = omega (arith, before)
    not_before (suc place) within m from i before is =
        let last = slice_get-get_or numbers place 0 (omega (arith, within)) in
        elim (cases_lt i place) [
          | inl early ↦
              let less = those.ascending i place m (get_or numbers place 0) early is last in
              omega (arith, less, from)
          | inr late ↦
              let same : i ≡ place = omega (arith, before, late) in
              let At : ℕ → Type 0 = λ k. slice_get numbers k ≡ Some m in
              let one : m ≡ get_or numbers place 0 = some_number (sym (subst At same is) ∙ last) in
              omega (arith, one, from)
        ]

    -- so between two of its numbers is none
    between : (place n m : ℕ) → slice_get numbers place ≡ Some n → from_place numbers place ≤ m → m < n → Has m → ⊥
    between place n m is from below has =
        let there = those.all m has in
        let at = at_place numbers there.0 m there.1 (sym there.2) in
        let within = slice_get_within numbers place n is in
        elim (cases_lt there.0 place) [
          | inl before ↦ not_before place (omega (arith, within)) m from there.0 before at
          | inr late ↦ elim (cases_lt place there.0) [
            | inl after ↦ let less = those.ascending place there.0 n m after is at in omega (arith, less, below)
            | inr early ↦
                let same : there.0 ≡ place = omega (arith, late, early) in
                let At : ℕ → Type 0 = λ k. slice_get numbers k ≡ Some m in
                let one : m ≡ n = some_number (sym (subst At same at) ∙ is) in
                omega (arith, one, below)
          ]
        ]

    -- the text of one more number of the list
    pub next_of : (place n : ℕ) (text here : List ℕ) → place < length numbers → n ≡ get_or numbers place n
        → EachBelow Is (from_place numbers place) text → Is n here →
        EachBelow Is (from_place numbers (place + 1)) (text ++ here)
    next_of place n text here within is each next =
        let at = at_place numbers place n within is in
        let skipped = skip_to text (from_place numbers place) n (behind place n at)
        (λ m from below. none m (between place n m at from below)) each in
        let At : ℕ → Type 0 = λ m. EachBelow Is m (text ++ here) in
        let Place : ℕ → Type 0 = λ k. EachBelow Is (from_place numbers k) (text ++ here) in
        let own : n ≡ get_or numbers place 0 = some_number (sym at ∙ slice_get-get_or numbers place 0 within) in
        let step : suc place ≡ place + 1 = omega arith in
        subst Place step (subst At (ap (λ (k : ℕ). k + 1) own) (NextBelow n text here skipped next))

    -- where the list has ended
    pub all_of : (place most : ℕ) (text : List ℕ) → place ≡ length numbers → ((m : ℕ) → Has m → m < most)
        → EachBelow Is (from_place numbers place) text → EachBelow Is most text
    all_of place most text end few each =
        skip_to text (from_place numbers place) most (low place end)
        (λ m from below. none m (λ has.
        let there = those.all m has in
        let within = there.1 in
        not_before place (omega (arith, end)) m from there.0 (omega (arith, within, end))
        (at_place numbers there.0 m within (sym there.2)))) each
      where
        low : (k : ℕ) → k ≡ length numbers → from_place numbers k ≤ most
        low zero at = omega arith
        low (suc k) at =
            let last = slice_get-get_or numbers k 0 (omega (arith, at)) in
            let own = few (get_or numbers k 0)
            (those.only (get_or numbers k 0) (contains_at numbers k (get_or numbers k 0) last)) in
            omega (arith, own)

-- what each number of a list has
pub item_has : (Has : ℕ → Type 0) (numbers : List ℕ) → AreThose Has numbers → (place n : ℕ) → place < length numbers
    → n ≡ get_or numbers place n → Has n
item_has Has numbers those place n within is = those.only n (place, within, sym is)
