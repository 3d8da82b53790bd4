-- Numbers no two of which are equal, and how often a number stands in a list.
use Rattle.std.proofs.Common.{◌≡◌, ◌≢◌, ℕ, Bool, ltb, add-one, ◌<◌, ◌≤◌, List, [], ◌∷◌, length, get_or, cond, eqb, true, false, zero, suc, sym, refl, subst, ⊎_elim, arith, All}
use Rattle.std.specs.List.{IsAllAdjacentAnswer, sum_by}
use Rattle.std.specs.List.Sorted.{IsPermutation, IsNonDecreasing}
use Rattle.std.proofs.lemmas.Bool.{eq-eqb, ltb-true, ltb-false}
use Rattle.std.proofs.lemmas.Bool.Decides.{eqb_tells, nat_tests}
use Rattle.std.proofs.lemmas.List.Elements.{All-cons, All-head, All-tail, All-nil, All-weaker, All-get_or}
use Rattle.std.proofs.lemmas.List.Sorted.{Contains-permutation, IsPermutation-sym, sum_by-IsPermutation}
use Rattle.std.proofs.lemmas.List.Sums.{sum_by-cons}
use Rattle.index_words.specs.Marks.{AreAscending}
use Rattle.index_words.specs.Words.{AreDifferent, IsOther}
use Rattle.cq_prelude.specs.Written.{Arranges}

-- 1 at a number, else 0
abbrev one_at : ℕ → ℕ → ℕ
one_at n m = cond (eqb m n) 1 0

abbrev count : ℕ → List ℕ → ℕ
count n xs = sum_by (one_at n) xs

one_same : (n : ℕ) → one_at n n ≡ 1
one_same n = rw (eq-eqb n n refl) refl

one_other : (n m : ℕ) → n ≢ m → one_at n m ≡ 0
one_other n m other = grind (arith, nat_tests)

-- a number that is other than all of a list is counted 0 times in it
count_none : (n : ℕ) (xs : List ℕ) → All (IsOther n) xs → count n xs ≡ 0
count_none n [] h = refl
count_none n (x ∷ xs) h =
    let first = one_other n x (All-head (IsOther n) x xs h) in
    let rest = count_none n xs (All-tail (IsOther n) x xs h) in
    omega (arith, sum_by-cons (one_at n) x xs)

-- a number that is counted 0 times in a list is other than all of it
none_count : (n : ℕ) (xs : List ℕ) → count n xs ≡ 0 → All (IsOther n) xs
none_count n [] h = All-nil (IsOther n)
none_count n (x ∷ xs) h =
    let split = sum_by-cons (one_at n) x xs in
    let same = one_same n in
    All-cons (IsOther n) x xs (λ is. let first : one_at n x ≡ 1 = subst (λ (m : ℕ). one_at n m ≡ 1) is same in
    absurd (omega arith))
    (none_count n xs (omega arith))

when_is : (b : Bool) → b ≡ true → cond {A = ℕ} b 1 0 ≡ 1
when_is b is = rw is refl

when_not : (b : Bool) → b ≡ false → cond {A = ℕ} b 1 0 ≡ 0
when_not b is = rw is refl

-- in a list of different numbers each is counted at most once
different_count : (xs : List ℕ) → AreDifferent xs → (n : ℕ) → count n xs ≤ 1
different_count [] h n = omega arith
different_count (x ∷ xs) h n = ⊎_elim
    (λ (same : (eqb x n ≡ true) × (x ≡ n)).
    omega (
      arith,
      sum_by-cons (one_at n) x xs,
      when_is _ same.0,
      count_none n xs (subst (λ (m : ℕ). All (IsOther m) xs) same.1 h.0),
    ))
    (λ (other : (eqb x n ≡ false) × (x ≢ n)).
    omega (arith, sum_by-cons (one_at n) x xs, when_not _ other.0, different_count xs h.1 n))
    (eqb_tells x n)

-- a list in which each number is counted at most once has different numbers
count_different : (xs : List ℕ) → ((n : ℕ) → count n xs ≤ 1) → AreDifferent xs
count_different [] h = tt
count_different (x ∷ xs) h = (
  none_count x xs (omega (arith, h x, sum_by-cons (one_at x) x xs, one_same x)),
  count_different xs (λ n. omega (arith, h n, sum_by-cons (one_at n) x xs)),
)

pub permuted : (xs ys : List ℕ) → IsPermutation xs ys → AreDifferent xs → AreDifferent ys
permuted xs ys moved h =
    count_different ys (λ n. omega (arith, different_count xs h n, sum_by-IsPermutation (one_at n) xs ys moved))

-- in an ascending list all numbers behind the first are above it
above : (x : ℕ) (xs : List ℕ) → AreAscending (x ∷ xs) → All (λ y. x < y) xs
above x [] h = All-nil (λ y. x < y)
above x (y ∷ ys) h =
    All-cons (λ y. x < y) y ys h.0
    (All-weaker (λ z. y < z) (λ z. x < z) (λ z lt. let first = h.0 in omega arith) ys (above y ys h.1))

rest_ascends : (x : ℕ) (xs : List ℕ) → AreAscending (x ∷ xs) → AreAscending xs
rest_ascends x [] h = tt
rest_ascends x (y ∷ ys) h = h.1

-- the numbers of an ascending list are different
ascending_different : (xs : List ℕ) → AreAscending xs → AreDifferent xs
ascending_different [] h = tt
ascending_different (x ∷ xs) h = (
  All-weaker (λ y. x < y) (IsOther x) (λ y lt is. omega arith) xs (above x xs h),
  ascending_different xs (rest_ascends x xs h),
)

-- a list in which each number is below the next one ascends
ascends : (xs : List ℕ) → ((k d : ℕ) → suc k < length xs → get_or xs k d < get_or xs (suc k) d) → AreAscending xs
ascends [] h = tt
ascends (x ∷ []) h = tt
ascends (x ∷ y ∷ ys) h = (h 0 0 (omega arith), ascends (y ∷ ys) (λ k d lt. h (suc k) d (omega arith)))

-- in an ascending list each number is below the next one
adjacent : (xs : List ℕ) → AreAscending xs → (k d : ℕ) → suc k < length xs → get_or xs k d < get_or xs (suc k) d
adjacent [] h k d lt = absurd (omega arith)
adjacent (x ∷ []) h k d lt = absurd (omega arith)
adjacent (x ∷ y ∷ ys) h zero d lt = h.0
adjacent (x ∷ y ∷ ys) h (suc k) d lt = adjacent (y ∷ ys) h.1 k d (omega arith)

-- in a list of different numbers each is other than the next one
different_places : (xs : List ℕ) → AreDifferent xs → (k d : ℕ) → suc k < length xs → get_or xs k d ≢ get_or xs (suc k) d
different_places [] h k d lt = absurd (omega arith)
different_places (x ∷ xs) h zero d lt = All-get_or (IsOther x) xs 0 d (omega arith) h.0
different_places (x ∷ xs) h (suc k) d lt = different_places xs h.1 k d (omega arith)

-- numbers that do not fall ascend, where no two are equal
pub rises : (xs : List ℕ) → IsNonDecreasing xs → AreDifferent xs → AreAscending xs
rises xs rising h =
    ascends xs (λ k d lt. let le = rising k (suc k) d (omega arith) lt in
    let other = different_places xs h k d lt in omega arith)

pub is_ascending : (xs : List ℕ) (r : Bool) → IsAllAdjacentAnswer (λ x y b. b ≡ ltb x y) xs r → r ≡ true
    → AreAscending xs
is_ascending xs r h is = ascends xs (λ k d lt. let all = rw is at h in
    ltb-true (get_or xs k d) (get_or xs (suc k) d) (sym (rw add-one at (all k d (omega arith)))))

-- where the test of adjacent numbers answers false, the list does not ascend
pub is_no_ascending : (xs : List ℕ) (r : Bool) → IsAllAdjacentAnswer (λ x y b. b ≡ ltb x y) xs r → r ≡ false
    → AreAscending xs → ⊥
is_no_ascending xs r h is up =
    let some = rw is at h in
    let le = ltb-false (get_or xs some.0 0) (get_or xs (suc some.0) 0) (sym (rw add-one at (some.2 0))) in
    let lt = adjacent xs up some.0 0 (omega (arith, some.1)) in
    omega arith

-- a permutation of a list that ascends is the list with each number once, in order
pub arranges : (xs ys : List ℕ) → IsPermutation xs ys → AreAscending ys → Arranges xs ys
arranges xs ys moved up = record {
  different = permuted ys xs (IsPermutation-sym xs ys moved) (ascending_different ys up);
  same = λ n. (Contains-permutation ys xs n (IsPermutation-sym xs ys moved), Contains-permutation xs ys n moved);
  ascending = up;
}
