-- Linemarkers: where their parts stand.
use Rattle.std.proofs.Common.{◌≡◌, ℕ, zero, suc, ◌+◌, ◌-◌, ◌*◌, ◌^◌, ◌<◌, ◌≤◌, Bool, true, false, ◌&&◌, ◌==◌, List, [], ◌∷◌, length, take, drop, get_or, refl, sym, ◌∙◌, ap, arith, nat_lt, nat_le, inl, inr, ◌⊎◌}
use Rattle.std.specs.Prelude.{slice_range}
use Rattle.std.specs.List.{prefix_len, list_all}
use Rattle.std.proofs.lemmas.Bool.{and_parts, and_from, eqb-true, ltb-true, leb-true, lt-ltb, le-leb, both_ways, cases_order}
use Rattle.std.proofs.lemmas.Bool.Decides.{nat_tests}
use Rattle.std.proofs.lemmas.List.{get_or-drop, length-drop}
use Rattle.std.proofs.lemmas.List.Sums.{prefix_len_is, prefix_len_passes, prefix_len-le-length}
use Rattle.c_lexer.specs.declared.marks.Marker.{Marker}
use Rattle.c_lexer.specs.declared.marks.Parts.{Parts}
use Rattle.c_lexer.specs.Spelling.{is_digit, is_quoted, begins_with, IsLongestOf, NoneShorter, HasNone}
use Rattle.c_lexer.specs.Gaps.{is_blank}
use Rattle.c_lexer.specs.Marks.{IsRun, IsMarker, are_flags, decimal}
use Rattle.std.proofs.Math.Nat.{pow-le-pow_right}
use Rattle.c_lexer.proofs.FrontLemmas.{all_pass}

-- a run that something else follows is all that passes
run_len : (test : ℕ → Bool) (bytes : List ℕ) (from to : ℕ) → IsRun test bytes from to → test (get_or bytes to 0) ≡ false
    → to ≡ from + prefix_len test (drop from bytes)
run_len test bytes from to run stops =
    let rises = run.rises in
    let inside = run.inside in
    let size = length-drop from bytes in
    let len : prefix_len test (drop from bytes) ≡ to - from =
    prefix_len_is test (drop from bytes) (to - from) 0 (omega arith)
    (λ k lt. ap test (get_or-drop from bytes k 0) ∙ run.passes (from + k) (omega arith) (omega arith))
    (λ lt. ap test (get_or-drop from bytes (to - from) 0
    ∙ ap (λ i. get_or bytes i 0) (let e : from + (to - from) ≡ to = omega arith in e)) ∙ stops) in
    omega (arith, len)

-- all that passes is a run, where it is not empty
pub len-run : (test : ℕ → Bool) (bytes : List ℕ) (from to : ℕ) → to ≡ from + prefix_len test (drop from bytes)
    → from < to → IsRun test bytes from to
len-run test bytes from to is rises = record {
  rises = rises;
  inside = (let most = prefix_len-le-length test (drop from bytes) in let size = length-drop from bytes in
      omega (arith, is));
  passes = λ k lo lt.
      ap test (sym (get_or-drop from bytes (k - from) 0
      ∙ ap (λ i. get_or bytes i 0) (let e : from + (k - from) ≡ k = omega arith in e)))
      ∙ prefix_len_passes test (drop from bytes) (k - from) 0 (omega (arith, is));
}

blank_digit : (c : ℕ) → is_blank c ≡ true → is_digit c ≡ false
blank_digit c h = grind (arith, nat_tests)

digit_blank : (c : ℕ) → is_digit c ≡ true → is_blank c ≡ false
digit_blank c h = grind (arith, nat_tests)

-- the quote stands where the quoted bytes begin
quote_stands : (bytes : List ℕ) (at m : ℕ) → is_quoted 34 (take m (drop at bytes)) ≡ true → get_or bytes at 0 ≡ 34
quote_stands bytes at m h = by_list (drop at bytes) m refl h
  where
    by_list : (rest : List ℕ) (m : ℕ) → drop at bytes ≡ rest → is_quoted 34 (take m rest) ≡ true
        → get_or bytes at 0 ≡ 34
    by_list rest zero e h = absurd cc
    by_list [] (suc m) e h = absurd cc
    by_list (c ∷ cs) (suc m) e h =
        ap (λ i. get_or bytes i 0) (let f : at ≡ at + 0 = omega arith in f) ∙ sym (get_or-drop at bytes 0 0)
        ∙ ap (λ l. get_or l 0 0) e ∙ eqb-true c 34 (and_parts (c == 34) _ h).0

-- the parts of a linemarker stand where they are read
pub record IsReadAt (line : List ℕ) (parts : Parts) : Type 0 where
  pub digits_at : parts.digits_at ≡ 1 + prefix_len is_blank (drop 1 line)
  pub digits_end : parts.digits_end ≡ parts.digits_at + prefix_len is_digit (drop parts.digits_at line)
  pub quote_at : parts.quote_at ≡ parts.digits_end + prefix_len is_blank (drop parts.digits_end line)

pub record SameParts (line : List ℕ) (m : Marker) (parts : Parts) (marks : IsMarker line m) : Type 0 where
  pub digits_at : marks.digits_at ≡ parts.digits_at
  pub digits_end : marks.digits_end ≡ parts.digits_end
  pub quote_at : marks.quote_at ≡ parts.quote_at

-- the parts of a linemarker stand where they are read in its line
pub same_parts : (line : List ℕ) (parts : Parts) → IsReadAt line parts → (m : Marker) (marks : IsMarker line m)
    → SameParts line m parts marks
same_parts line parts read m marks =
    let digits = marks.digits in
    let blanks = marks.second_blanks in
    let first : marks.digits_at ≡ parts.digits_at =
    run_len is_blank line 1 marks.digits_at marks.first_blanks (digit_blank (get_or line marks.digits_at 0)
    (digits.passes marks.digits_at (omega arith) digits.rises)) ∙ sym read.digits_at in
    let second : marks.digits_end ≡ parts.digits_end =
    run_len is_digit line marks.digits_at marks.digits_end digits
    (blank_digit (get_or line marks.digits_end 0) (blanks.passes marks.digits_end (omega arith) blanks.rises))
    ∙ ap (λ at. at + prefix_len is_digit (drop at line)) first ∙ sym read.digits_end in
    let stands : get_or line marks.quote_at 0 ≡ 34 =
    quote_stands line marks.quote_at (m.name_to + 1 - marks.quote_at) marks.file in
    let third : marks.quote_at ≡ parts.quote_at =
    run_len is_blank line marks.digits_end marks.quote_at blanks (rw stands refl)
    ∙ ap (λ at. at + prefix_len is_blank (drop at line)) second ∙ sym read.quote_at in
    record { digits_at = first; digits_end = second; quote_at = third }

abbrev pub long_enough : Parts → Bool
long_enough parts =
    nat_lt 1 parts.digits_at && (nat_lt parts.digits_at parts.digits_end
    && (nat_le parts.digits_end (parts.digits_at + 9) && nat_lt parts.digits_end parts.quote_at))

-- a line whose parts are too short or too long is no linemarker
pub short-no_marker : (line : List ℕ) (parts : Parts) → IsReadAt line parts → long_enough parts ≡ false → (m : Marker)
    → ¬ IsMarker line m
short-no_marker line parts read short m marks =
    let same = same_parts line parts read m marks in
    let one = marks.first_blanks.rises in
    let two = marks.digits.rises in
    let three = marks.few in
    let four = marks.second_blanks.rises in
    let a = same.digits_at in
    let b = same.digits_end in
    let d = same.quote_at in
    both_ways (long_enough parts) short
    (and_from _ _ (lt-ltb 1 parts.digits_at (omega arith))
    (and_from _ _ (lt-ltb parts.digits_at parts.digits_end (omega arith))
    (and_from _ _ (le-leb parts.digits_end (parts.digits_at + 9) (omega arith))
    (lt-ltb parts.digits_end parts.quote_at (omega arith)))))

-- the length of the quoted name, from where the parts place it
pub file_len : (line : List ℕ) (parts : Parts) → IsReadAt line parts → (m : Marker) (marks : IsMarker line m) →
    (n : ℕ) × (n ≤ length (drop parts.quote_at line)) × (is_quoted 34 (take n (drop parts.quote_at line)) ≡ true)
    × (m.name_to + 1 ≡ parts.quote_at + n)
file_len line parts read m marks =
    let same = same_parts line parts read m marks in
    let n = m.name_to + 1 - parts.quote_at in
    let file : is_quoted 34 (take n (drop parts.quote_at line)) ≡ true = rw same.quote_at at marks.file in
    let inside = marks.inside in
    (n, (let size = length-drop parts.quote_at line in omega arith), file, by_order n refl file)
  where
    by_order : (n : ℕ) → n ≡ m.name_to + 1 - parts.quote_at → is_quoted 34 (take n (drop parts.quote_at line)) ≡ true
        → m.name_to + 1 ≡ parts.quote_at + (m.name_to + 1 - parts.quote_at)
    by_order zero e file = absurd cc
    by_order (suc n) e file = omega (arith, e)

-- a line without a quoted name where it should be is no linemarker
pub no-name : (line : List ℕ) (parts : Parts) → IsReadAt line parts → HasNone (is_quoted 34) (drop parts.quote_at line)
    → (m : Marker) → ¬ IsMarker line m
no-name line parts read none m marks =
    let file = file_len line parts read m marks in
    both_ways _ (none file.0 file.1) file.2

-- quoted bytes in front have one length
same_len : (bytes : List ℕ) (n k : ℕ) → IsLongestOf (is_quoted 34) bytes n → NoneShorter (is_quoted 34) bytes n
    → k ≤ length bytes → is_quoted 34 (take k bytes) ≡ true → k ≡ n
same_len bytes n k long only le h = by_order (cases_order k n)
  where
    by_order : (k ≡ n) ⊎ ((k < n) ⊎ (n < k)) → k ≡ n
    by_order (inl e) = e
    by_order (inr (inl lt)) = absurd (both_ways _ (only k lt) h)
    by_order (inr (inr gt)) = absurd (both_ways _ (long.longest k gt le) h)

-- a line with anything but flags behind its name is no linemarker
pub no-flags : (line : List ℕ) (parts : Parts) → IsReadAt line parts → (n : ℕ)
    → IsLongestOf (is_quoted 34) (drop parts.quote_at line) n
    → NoneShorter (is_quoted 34) (drop parts.quote_at line) n →
    are_flags false (drop (parts.quote_at + n) line) ≡ false → (m : Marker) → ¬ IsMarker line m
no-flags line parts read n long only stops m marks =
    let file = file_len line parts read m marks in
    let same = same_len (drop parts.quote_at line) n file.0 long only file.1 file.2 in
    let end : m.name_to + 1 ≡ parts.quote_at + n = file.3 ∙ ap (λ k. parts.quote_at + k) same in
    both_ways _ stops (rw end at marks.flags)

-- what is read as the digits of a line are digits
pub digits-all : (line : List ℕ) (parts : Parts) → IsReadAt line parts
    → list_all is_digit (take (parts.digits_end - parts.digits_at) (drop parts.digits_at line)) ≡ true
digits-all line parts read =
    let len : parts.digits_end - parts.digits_at ≡ prefix_len is_digit (drop parts.digits_at line) =
    (let e = read.digits_end in omega arith) in
    rw len (all_pass is_digit (drop parts.digits_at line))

-- a line with `#`, digits, a quoted name and flags is a linemarker, with its number and its name's place
pub found-marker : (line : List ℕ) (parts : Parts) → IsReadAt line parts → begins_with (λ c. c == 35) line ≡ true
    → long_enough parts ≡ true → (n number : ℕ) → IsLongestOf (is_quoted 34) (drop parts.quote_at line) n →
    are_flags false (drop (parts.quote_at + n) line) ≡ true
    → number ≡ decimal (slice_range line parts.digits_at parts.digits_end) →
    IsMarker line (record { number = number; name_from = parts.quote_at + 1; name_to = parts.quote_at + n - 1 })
found-marker line parts read hash long zero number file flags is = absurd (let h = file.passes in cc)
found-marker line parts read hash long (suc n) number file flags is =
    let one = and_parts _ _ long in
    let two = and_parts _ _ one.1 in
    let three = and_parts _ _ two.1 in
    let end : parts.quote_at + suc n - 1 + 1 ≡ parts.quote_at + suc n = omega arith in
    record {
      digits_at = parts.digits_at;
      digits_end = parts.digits_end;
      quote_at = parts.quote_at;
      hash = hash;
      first_blanks = len-run is_blank line 1 parts.digits_at read.digits_at (ltb-true 1 parts.digits_at one.0);
      digits = len-run is_digit line parts.digits_at parts.digits_end read.digits_end
          (ltb-true parts.digits_at parts.digits_end two.0);
      few = leb-true parts.digits_end (parts.digits_at + 9) three.0;
      second_blanks = len-run is_blank line parts.digits_end parts.quote_at read.quote_at
          (ltb-true parts.digits_end parts.quote_at three.1);
      name_from = refl;
      inside = (let i = file.inside in let size = length-drop parts.quote_at line in omega arith);
      file = rw (end, let e : parts.quote_at + suc n - parts.quote_at ≡ suc n = omega arith in e) file.passes;
      flags = rw end flags;
      number = is;
    }

-- a number of fewer than nine digits has room for one more
pub room : (n i d : ℕ) → n < 10 ^ i → i < 9 → d ≤ 9 → 10 * n + d < 1000000000
room n i d small few digit =
    let most : 10 ^ i ≤ 10 ^ 8 = pow-le-pow_right {n = 10} (omega arith) {i = i} {j = 8} (omega arith) in
    let bound : 10 ^ 8 ≡ 100000000 = refl in
    omega arith

-- a byte of a list of digits stands for at most nine
pub digit_value : (digits : List ℕ) (i : ℕ) → list_all is_digit digits ≡ true → i < length digits
    → get_or digits i 0 - 48 ≤ 9
digit_value [] i h lt = absurd (omega arith)
digit_value (c ∷ cs) zero h lt =
    let parts = and_parts (nat_le 48 c) (nat_le c 57) (and_parts (is_digit c) (list_all is_digit cs) h).0 in
    let most = leb-true c 57 parts.1 in
    omega arith
digit_value (c ∷ cs) (suc i) h lt = digit_value cs i (and_parts (is_digit c) (list_all is_digit cs) h).1 (omega arith)
