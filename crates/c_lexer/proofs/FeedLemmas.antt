-- The table of line feeds of some bytes.
use Rattle.std.proofs.Common.{◌≡◌, ◌≢◌, ℕ, zero, suc, ◌+◌, ◌-◌, ◌<◌, ◌≤◌, Bool, true, false, ◌==◌, nat_lt, nat_le, List, [], ◌∷◌, ◌++◌, length, take, drop, get_or, refl, sym, ◌∙◌, ap, subst, arith, add-one, inl, inr, ◌⊎◌, if◌then◌else◌, All}
use Rattle.std.specs.List.{count_by}
use Rattle.std.specs.List.Sorted.{IsPartitionedBy, IsPartitionPoint}
use Rattle.std.proofs.lemmas.Bool.{both_ways, cases_Bool, cases_lt, cases_order, lt-ltb, le-ltb, eqb-true, eqb-false}
use Rattle.std.proofs.lemmas.List.{take-append-drop, take-take, drop-take, append-nil, append_assoc, length-append, get_or_append_left, get_or-append_right, get_or_at}
use Rattle.std.proofs.lemmas.List.Sums.{sum_by-append, count_by_more_yes, count_by_more_no}
use Rattle.memchr.specs.Find.{is_byte, places, places_from}
use Rattle.memchr.proofs.lemmas.PlaceLemmas.{places_from-append}
use Rattle.std.specs.Prelude.{slice_range, slice_get, Some}
use Rattle.std.proofs.lemmas.Bool.{leb-true, leb-false}
use Rattle.std.proofs.lemmas.Option.{get_or_from_slice_get, slice_get-get_or}
use Rattle.c_lexer.specs.declared.places.Mark.{Mark}
use Rattle.c_lexer.specs.Places.{IsLineOf, Governs, no_mark}
use Rattle.c_lexer.specs.Places.Governs.{none, last}

-- the line feeds among the first n bytes
abbrev pub feeds : List ℕ → ℕ → List ℕ
feeds bytes n = places_from (is_byte 10) bytes 0 n

one_place : (bytes : List ℕ) (i : ℕ)
    → places_from (is_byte 10) bytes i 1 ≡ (if get_or bytes i 0 == 10 then i ∷ [] else [])
unfolding places_from
one_place bytes i = refl

feeds_more : (bytes : List ℕ) (n : ℕ)
    → feeds bytes (n + 1) ≡ feeds bytes n ++ (if get_or bytes n 0 == 10 then n ∷ [] else [])
feeds_more bytes n =
    places_from-append (is_byte 10) bytes 0 n 1 ∙ ap (λ i. feeds bytes n ++ places_from (is_byte 10) bytes i 1)
    (let e : 0 + n ≡ n = omega arith in e) ∙ ap (λ l. feeds bytes n ++ l) (one_place bytes n)

feeds_nil : (bytes : List ℕ) → feeds bytes 0 ≡ []
unfolding places_from
feeds_nil bytes = refl

append_nil : (xs : List ℕ) → xs ++ [] ≡ xs
append_nil xs = append-nil xs

-- the line feeds among the first bytes are as many as are counted there
pub feeds-count : (bytes : List ℕ) (n : ℕ) → n ≤ length bytes
    → length (feeds bytes n) ≡ count_by (λ c. c == 10) (take n bytes)
feeds-count bytes zero le = ap length (feeds_nil bytes)
feeds-count bytes (suc n) le = by_test (feeds-count bytes n (omega arith)) (cases_Bool (get_or bytes n 0 == 10))
  where
    by_test : length (feeds bytes n) ≡ count_by (λ c. c == 10) (take n bytes)
        → ((get_or bytes n 0 == 10) ≡ true) ⊎ ((get_or bytes n 0 == 10) ≡ false)
        → length (feeds bytes (suc n)) ≡ count_by (λ c. c == 10) (take (suc n) bytes)
    by_test before (inl is) =
        rw (← add-one n) (ap length (feeds_more bytes n ∙ ap (λ b. feeds bytes n ++ (if b then n ∷ [] else [])) is)
        ∙ length-append (feeds bytes n) (n ∷ []) ∙ ap (λ k. k + 1) before
        ∙ sym (count_by_more_yes (λ c. c == 10) bytes n 0 (omega arith) is))
    by_test before (inr is) =
        rw (← add-one n) (ap length (feeds_more bytes n ∙ ap (λ b. feeds bytes n ++ (if b then n ∷ [] else [])) is
        ∙ append_nil (feeds bytes n)) ∙ before
        ∙ sym (count_by_more_no (λ c. c == 10) bytes n 0 (omega arith) is))

-- each place among n bytes from i on lies there
places_within : (bytes : List ℕ) (i n k d : ℕ) → k < length (places_from (is_byte 10) bytes i n)
    → (i ≤ get_or (places_from (is_byte 10) bytes i n) k d) × (get_or (places_from (is_byte 10) bytes i n) k d < i + n)
unfolding places_from
places_within bytes i zero k d lt = absurd (omega arith)
places_within bytes i (suc n) k d lt =
    by_test (get_or bytes i 0 == 10) k lt (λ k lt. places_within bytes (i + 1) n k d lt)
  where
    by_test : (b : Bool) (k : ℕ)
        → k < length
        (if b then i ∷ places_from (is_byte 10) bytes (i + 1) n else places_from (is_byte 10) bytes (i + 1) n) →
        ((k : ℕ) → k < length (places_from (is_byte 10) bytes (i + 1) n)
        → (i + 1 ≤ get_or (places_from (is_byte 10) bytes (i + 1) n) k d)
        × (get_or (places_from (is_byte 10) bytes (i + 1) n) k d < i + 1 + n)) →
        (i ≤ get_or (if b then i ∷ places_from (is_byte 10) bytes (i + 1) n
        else places_from (is_byte 10) bytes (i + 1) n) k d) × (get_or (if b then i
        ∷ places_from (is_byte 10) bytes (i + 1) n else places_from (is_byte 10) bytes (i + 1) n) k d < i + suc n)
    by_test true zero lt ih = (omega arith, omega arith)
    by_test true (suc k) lt ih = let h = ih k (omega arith) in (omega arith, omega arith)
    by_test false k lt ih = let h = ih k lt in (omega arith, omega arith)

-- the table, cut at a place
abbrev behind : List ℕ → ℕ → List ℕ
behind bytes at = places_from (is_byte 10) bytes at (length bytes - at)

-- the line feeds of all bytes are those before a place, and those from it on
pub feeds-cut : (bytes : List ℕ) (at : ℕ) → at ≤ length bytes
    → places (is_byte 10) bytes ≡ feeds bytes at ++ behind bytes at
feeds-cut bytes at le =
    ap (λ n. places_from (is_byte 10) bytes 0 n) (let e : length bytes - 0 ≡ at + (length bytes - at) = omega arith in
    e) ∙ places_from-append (is_byte 10) bytes 0 at (length bytes - at)
    ∙ ap (λ i. feeds bytes at ++ places_from (is_byte 10) bytes i (length bytes - at))
    (let e : 0 + at ≡ at = omega arith in e)

-- an element before a cut is below the place, and one behind it is not
cut_below : (bytes : List ℕ) (at k d : ℕ) → k < length (feeds bytes at)
    → nat_lt (get_or (feeds bytes at ++ behind bytes at) k d) at ≡ true
cut_below bytes at k d lt =
    rw (get_or_append_left (feeds bytes at) (behind bytes at) d k lt)
    (lt-ltb _ at (let h = places_within bytes 0 at k d lt in omega arith))

-- a line feed behind the cut at a place is not below it
cut_above : (bytes : List ℕ) (at k d : ℕ) → length (feeds bytes at) ≤ k → k < length (feeds bytes at ++ behind bytes at)
    → nat_lt (get_or (feeds bytes at ++ behind bytes at) k d) at ≡ false
cut_above bytes at k d ge lt =
    let size = length-append (feeds bytes at) (behind bytes at) in
    rw (get_or-append_right (feeds bytes at) (behind bytes at) (length (feeds bytes at)) k d refl ge)
    (le-ltb _ at
    (let h = places_within bytes at (length bytes - at) (k - length (feeds bytes at)) d (omega arith) in omega arith))

-- a partition point of the table is the number of line feeds before the place
pub feeds-point : (bytes xs : List ℕ) (at i : ℕ) → xs ≡ places (is_byte 10) bytes → at ≤ length bytes → i ≤ length xs →
    (IsPartitionedBy (λ y. nat_lt y at) xs → IsPartitionPoint (λ y. nat_lt y at ≡ true) (λ y. nat_lt y at ≡ false) xs i)
    → i ≡ length (feeds bytes at)
feeds-point bytes xs at i is le within point =
    let cut : xs ≡ feeds bytes at ++ behind bytes at = is ∙ feeds-cut bytes at le in
    let Point : List ℕ → Type 0 = λ l. i ≤ length l → (IsPartitionedBy (λ y. nat_lt y at) l
    → IsPartitionPoint (λ y. nat_lt y at ≡ true) (λ y. nat_lt y at ≡ false) l i) → i ≡ length (feeds bytes at) in
    subst Point (sym cut) at_cut within point
  where
    parted : IsPartitionedBy (λ y. nat_lt y at) (feeds bytes at ++ behind bytes at)
    parted a b d le lt passes = by_order (cases_lt a (length (feeds bytes at)))
      where
        by_order : (a < length (feeds bytes at)) ⊎ (length (feeds bytes at) ≤ a)
            → nat_lt (get_or (feeds bytes at ++ behind bytes at) a d) at ≡ true
        by_order (inl before) = cut_below bytes at a d before
        by_order (inr past) = absurd (both_ways _ (cut_above bytes at b d (omega arith) lt) passes)

    at_cut : i ≤ length (feeds bytes at ++ behind bytes at)
        → (IsPartitionedBy (λ y. nat_lt y at) (feeds bytes at ++ behind bytes at)
        → IsPartitionPoint (λ y. nat_lt y at ≡ true) (λ y. nat_lt y at ≡ false) (feeds bytes at ++ behind bytes at) i)
        → i ≡ length (feeds bytes at)
    at_cut within point = by_order (cases_order i (length (feeds bytes at)))
      where
        by_order : (i ≡ length (feeds bytes at)) ⊎ ((i < length (feeds bytes at)) ⊎ (length (feeds bytes at) < i))
            → i ≡ length (feeds bytes at)
        by_order (inl e) = e
        by_order (inr (inl lt)) =
            absurd (let size = length-append (feeds bytes at) (behind bytes at) in
            both_ways _ ((point parted).1 i 0 (omega arith) (omega arith)) (cut_below bytes at i 0 lt))
        by_order (inr (inr gt)) =
            absurd (both_ways _ (cut_above bytes at (length (feeds bytes at)) 0 (omega arith) (omega arith))
            ((point parted).0 (length (feeds bytes at)) 0 (omega arith) gt))

-- the last line feed among the first n bytes, where there is one
pub data Last (bytes : List ℕ) (n : ℕ) : Type 0 where
  nowhere : feeds bytes n ≡ [] → ((k : ℕ) → k < n → get_or bytes k 0 ≢ 10) → Last bytes n
  somewhere : (before : List ℕ) (p : ℕ) → feeds bytes n ≡ before ++ p ∷ [] → p < n → get_or bytes p 0 ≡ 10
      → ((k : ℕ) → p < k → k < n → get_or bytes k 0 ≢ 10) → Last bytes n

-- a number below one more than another is below it or equal to it
below_more : (n k : ℕ) → k < suc n → (k < n) ⊎ (k ≡ n)
below_more n k lt = by_order (cases_lt k n)
  where
    by_order : (k < n) ⊎ (n ≤ k) → (k < n) ⊎ (k ≡ n)
    by_order (inl less) = inl less
    by_order (inr more) = inr (omega arith)

-- the first bytes have no line feed, or a last one
pub feeds-last : (bytes : List ℕ) (n : ℕ) → Last bytes n
feeds-last bytes zero = nowhere (feeds_nil bytes) (λ k lt. absurd (omega arith))
feeds-last bytes (suc n) = by_test (feeds-last bytes n) (cases_Bool (get_or bytes n 0 == 10))
  where
    by_test : Last bytes n → ((get_or bytes n 0 == 10) ≡ true) ⊎ ((get_or bytes n 0 == 10) ≡ false) → Last bytes (suc n)
    by_test before (inl is) =
        somewhere (feeds bytes n) n
        (rw (← add-one n) (feeds_more bytes n ∙ ap (λ b. feeds bytes n ++ (if b then n ∷ [] else [])) is)) (omega arith)
        (eqb-true _ 10 is) (λ k gt lt. absurd (omega arith))
    by_test (nowhere empty apart) (inr is) =
        nowhere (rw (← add-one n) (feeds_more bytes n ∙ ap (λ b. feeds bytes n ++ (if b then n ∷ [] else [])) is
        ∙ append_nil (feeds bytes n) ∙ empty))
        (λ k lt. by_place k (apart k) (below_more n k lt))
      where
        by_place : (k : ℕ) → (k < n → get_or bytes k 0 ≢ 10) → (k < n) ⊎ (k ≡ n) → get_or bytes k 0 ≢ 10
        by_place k apart (inl less) = apart less
        by_place k apart (inr same) = λ e. eqb-false _ 10 is (ap (λ i. get_or bytes i 0) (sym same) ∙ e)
    by_test (somewhere rest p cut lt feed apart) (inr is) =
        somewhere rest p (rw (← add-one n) (feeds_more bytes n ∙ ap
        (λ b. feeds bytes n ++ (if b then n ∷ [] else [])) is ∙ append_nil (feeds bytes n) ∙ cut)) (omega arith) feed
        (λ k gt less. by_place k (apart k gt) (below_more n k less))
      where
        by_place : (k : ℕ) → (k < n → get_or bytes k 0 ≢ 10) → (k < n) ⊎ (k ≡ n) → get_or bytes k 0 ≢ 10
        by_place k apart (inl less) = apart less
        by_place k apart (inr same) = λ e. eqb-false _ 10 is (ap (λ i. get_or bytes i 0) (sym same) ∙ e)

-- where no line feed stands before a place, its line is the first
pub line-first : (bytes : List ℕ) (at : ℕ) → length (feeds bytes at) ≡ 0 → IsLineOf bytes at 0
line-first bytes at empty = by_last (feeds-last bytes at)
  where
    by_last : Last bytes at → IsLineOf bytes at 0
    by_last (nowhere e apart) = record { within = omega arith; begins = inl refl; no_feed = λ k lo lt. apart k lt }
    by_last (somewhere rest p cut lt feed apart) =
        absurd (let l = ap length cut in let size = length-append rest (p ∷ []) in omega arith)

-- else it begins behind the last line feed before it, which the table has at the place before the count
pub line-behind : (bytes xs : List ℕ) (at count : ℕ) → xs ≡ places (is_byte 10) bytes → at ≤ length bytes
    → count ≡ length (feeds bytes at) → (count ≡ 0 → ⊥) →
    (count - 1 < length xs) × ((d : ℕ) → get_or xs (count - 1) d < at)
    × ((d : ℕ) → IsLineOf bytes at (get_or xs (count - 1) d + 1))
line-behind bytes xs at count is le size some = by_last (feeds-last bytes at)
  where
    by_last : Last bytes at
        → (count - 1 < length xs) × ((d : ℕ) → get_or xs (count - 1) d < at)
        × ((d : ℕ) → IsLineOf bytes at (get_or xs (count - 1) d + 1))
    by_last (nowhere e apart) = absurd (some (size ∙ ap length e))
    by_last (somewhere rest p cut lt feed apart) =
        let whole : xs ≡ rest ++ p ∷ [] ++ behind bytes at =
        is ∙ feeds-cut bytes at le ∙ ap (λ l. l ++ behind bytes at) cut in
        let len : count ≡ length rest + 1 = size ∙ ap length cut ∙ length-append rest (p ∷ []) in
        let less : count - 1 ≡ length rest = omega (arith, len) in
        let all = ap length whole in
        let parts = length-append (rest ++ p ∷ []) (behind bytes at) in
        let front = length-append rest (p ∷ []) in
        let reads : (d : ℕ) → get_or xs (count - 1) d ≡ p = λ d.
        rw (whole, less) (get_or_append_left (rest ++ p ∷ []) (behind bytes at) d (length rest) (omega arith)
        ∙ get_or_at rest p [] d (length rest) refl) in (
          omega arith,
          (λ d. rw (reads d) lt),
          (λ d. rw (reads d) (record {
            within = omega arith;
            begins = inr (ap (λ i. get_or bytes i 0) (let e : p + 1 - 1 ≡ p = omega arith in e) ∙ feed);
            no_feed = λ k lo less. apart k (omega arith) less;
          })),
        )

-- a place that has a mark is below the number of marks
slice_get_length : (marks : List Mark) (j : ℕ) (m : Mark) → slice_get marks j ≡ Some m → j < length marks
slice_get_length [] j m e = absurd cc
slice_get_length (x ∷ xs) zero m e = omega arith
slice_get_length (x ∷ xs) (suc j) m e = let h = slice_get_length xs j m e in omega arith

-- the marks before a partition point begin at or before the place, and the others behind it
pub governs-last : (marks : List Mark) (at count : ℕ) → count ≤ length marks → (count ≡ 0 → ⊥)
    → IsPartitionPoint (λ (m : Mark). nat_le m.from at ≡ true) (λ (m : Mark). nat_le m.from at ≡ false) marks count →
    (d : Mark) → Governs marks at (get_or marks (count - 1) d) × ((get_or marks (count - 1) d).from ≤ at)
governs-last marks at count le some point d =
    let before : (get_or marks (count - 1) d).from ≤ at =
    leb-true _ at (point.0 (count - 1) d (omega arith) (omega arith)) in (
      last (count - 1) (slice_get-get_or marks (count - 1) d (omega arith)) before
          (λ j m gt there. let lt : j < length marks = slice_get_length marks j m there in
          let later : nat_le m.from at ≡ false =
          rw (get_or_from_slice_get marks j m d there) at (point.1 j d (omega arith) lt) in
          leb-false m.from at later),
      before,
    )

-- where no mark begins at or before a place, it is governed as before the first linemarker
pub governs-none : (marks : List Mark) (at count : ℕ) → count ≡ 0
    → IsPartitionPoint (λ (m : Mark). nat_le m.from at ≡ true) (λ (m : Mark). nat_le m.from at ≡ false) marks count
    → Governs marks at no_mark
governs-none marks at count zero_is point =
    none refl (λ j m there. let lt : j < length marks = slice_get_length marks j m there in
    let later : nat_le m.from at ≡ false =
    rw (get_or_from_slice_get marks j m no_mark there) at (point.1 j no_mark (omega arith) lt) in
    leb-false m.from at later)

-- what is left of the places, a step on
pub left-inside : (found later : List ℕ) (at most : ℕ) → found ≡ at ∷ later → All (λ k. k < most) found
    → All (λ k. k < most) later
left-inside found later at most is inside k d lt =
    let h = inside (suc k) d (let size = ap length is in omega arith) in
    let e : get_or found (suc k) d ≡ get_or later k d = ap (λ l. get_or l (suc k) d) is in
    omega (arith, e)

pub left-whole : (fed found later now whole : List ℕ) (at : ℕ) → found ≡ at ∷ later → now ≡ fed ++ at ∷ []
    → fed ++ found ≡ whole → now ++ later ≡ whole
left-whole fed found later now whole at is push before =
    ap (λ l. l ++ later) push ∙ append_assoc fed (at ∷ []) later ∙ ap (λ l. fed ++ l) (sym is) ∙ before

count_append : (p : ℕ → Bool) (xs ys : List ℕ) → count_by p (xs ++ ys) ≡ count_by p xs + count_by p ys
count_append p xs ys = sum_by-append (λ x. if p x then 1 else 0) xs ys

-- what passes before a place passes before an earlier one, or from there on
pub count-cut : (p : ℕ → Bool) (l : List ℕ) (from at : ℕ) → from ≤ at
    → count_by p (take at l) ≡ count_by p (take from l) + count_by p (slice_range l from at)
count-cut p l from at le =
    ap (count_by p) (sym (take-append-drop from (take at l)))
    ∙ count_append p (take from (take at l)) (drop from (take at l))
    ∙ ap (λ xs. count_by p xs + count_by p (drop from (take at l))) (take-take from at l le)
    ∙ ap (λ n. count_by p (take from l) + count_by p (drop from (take n l)))
    (let e : at ≡ from + (at - from) = omega arith in e)
    ∙ ap (λ xs. count_by p (take from l) + count_by p xs) (drop-take from (at - from) l)
