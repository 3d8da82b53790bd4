-- Fronts of a list of bytes, and the longest that passes a test.
use Rattle.std.proofs.Common.{◌≡◌, ℕ, zero, suc, ◌+◌, ◌<◌, ◌≤◌, Bool, true, false, cond, ◌&&◌, ◌||◌, ◌==◌, List, [], ◌∷◌, length, take, drop, refl, ◌∙◌, arith, one-add}
use Rattle.std.specs.List.{list_all, prefix_len}
use Rattle.std.proofs.lemmas.List.Sums.{prefix_len-le-length}
use Rattle.std.proofs.lemmas.Bool.Decides.{nat_tests}
use Rattle.std.proofs.lemmas.Bool.{and_parts, eqb-true}
use Rattle.c_lexer.specs.Spelling.{is_letter, is_word_byte, is_word, is_dollar, is_digit, is_digits, is_number, begins_with, is_number_tail, IsLongestOf, HasNone}

-- the bytes in front that pass are all of them, and more are not
pub all_pass : (p : ℕ → Bool) (bytes : List ℕ) → list_all p (take (prefix_len p bytes) bytes) ≡ true
all_pass p [] = refl
all_pass p (c ∷ cs) = by_test (p c) refl (all_pass p cs)
  where
    by_test : (b : Bool) → p c ≡ b → list_all p (take (prefix_len p cs) cs) ≡ true
        → list_all p (take (cond b (1 + prefix_len p cs) 0) (c ∷ cs)) ≡ true
    by_test true is rest = rw (one-add, is) rest
    by_test false is rest = refl

-- a front longer than the bytes that pass a test has one that does not
more_fail : (p : ℕ → Bool) (bytes : List ℕ) (m : ℕ) → prefix_len p bytes < m → m ≤ length bytes
    → list_all p (take m bytes) ≡ false
more_fail p [] m lt le = absurd (omega arith)
more_fail p (c ∷ cs) zero lt le = absurd (omega arith)
more_fail p (c ∷ cs) (suc m) lt le = by_test (p c) refl lt (λ lt. more_fail p cs m lt (omega arith))
  where
    by_test : (b : Bool) → p c ≡ b → cond b (1 + prefix_len p cs) 0 < suc m
        → (prefix_len p cs < m → list_all p (take m cs) ≡ false) → (b && list_all p (take m cs)) ≡ false
    by_test true is lt rest = rest (omega arith)
    by_test false is lt rest = refl

-- a first byte of its own, and then all that pass
pub longest_run : (first p : ℕ → Bool) (test : List ℕ → Bool)
    → ((c : ℕ) (cs : List ℕ) → test (c ∷ cs) ≡ (first c && list_all p cs)) →
    (c : ℕ) (cs : List ℕ) → first c ≡ true → IsLongestOf test (c ∷ cs) (1 + prefix_len p cs)
longest_run first p test form c cs h = record {
  inside = (let l = prefix_len-le-length p cs in omega arith);
  passes = rw (one-add, form c (take (prefix_len p cs) cs), h) (all_pass p cs);
  longest = longer;
}
  where
    longer : (m : ℕ) → 1 + prefix_len p cs < m → m ≤ length (c ∷ cs) → test (take m (c ∷ cs)) ≡ false
    longer zero lt le = absurd (omega arith)
    longer (suc m) lt le = rw (form c (take m cs), h) (more_fail p cs m (omega arith) (omega arith))

-- the bytes of words in front, from a letter on, are the longest word
pub word_longest : (bytes : List ℕ) → begins_with is_letter bytes ≡ true
    → IsLongestOf is_word bytes (prefix_len is_word_byte bytes)
word_longest [] h = absurd cc
word_longest (c ∷ cs) h =
    let word : is_word_byte c ≡ true = grind (arith, nat_tests) in
    rw word (longest_run is_letter is_word_byte is_word (λ c cs. refl) c cs h)

pub dollar_longest : (bytes : List ℕ) → begins_with (λ c. c == 36) bytes ≡ true
    → IsLongestOf is_dollar bytes (1 + prefix_len is_word_byte (drop 1 bytes))
dollar_longest [] h = absurd cc
dollar_longest (c ∷ cs) h = longest_run (λ c. c == 36) is_word_byte is_dollar (λ c cs. refl) c cs h

digit_apart : (c : ℕ) → is_digit c ≡ true → (c == 46) ≡ false
digit_apart c h = grind (arith, nat_tests)

-- bytes that begin with a digit are a number just if they are a digit and what goes on with it
digits_alike : (c : ℕ) (cs : List ℕ) → is_digit c ≡ true → is_number (c ∷ cs) ≡ is_digits (c ∷ cs)
digits_alike c cs h = rw (digit_apart c h, h) (by_tail (is_number_tail c cs))
  where
    by_tail : (b : Bool) → (b || false) ≡ b
    by_tail true = refl
    by_tail false = refl

point_alike : (c : ℕ) (cs : List ℕ) → (c == 46) ≡ true → is_number (c ∷ cs) ≡ is_digits cs
point_alike c cs h =
    rw (h, let no_digit : is_digit c ≡ false = (let e : c ≡ 46 = eqb-true c 46 h in rw e refl) in no_digit) refl

-- the longest run from a digit on is the longest number
pub digits-number : (bytes : List ℕ) (n : ℕ) → begins_with is_digit bytes ≡ true → IsLongestOf is_digits bytes n
    → IsLongestOf is_number bytes n
digits-number [] n h long = absurd cc
digits-number (c ∷ cs) n h long =
    record { inside = long.inside; passes = at n ∙ long.passes; longest = λ m lt le. at m ∙ long.longest m lt le }
  where
    at : (m : ℕ) → is_number (take m (c ∷ cs)) ≡ is_digits (take m (c ∷ cs))
    at zero = refl
    at (suc m) = digits_alike c (take m cs) h

-- `.` and the longest run from a digit on are the longest number
pub fraction-number : (bytes : List ℕ) (n : ℕ)
    → (begins_with (λ c. c == 46) bytes && begins_with is_digit (drop 1 bytes)) ≡ true
    → IsLongestOf is_digits (drop 1 bytes) n → IsLongestOf is_number bytes (1 + n)
fraction-number [] n h long = absurd cc
fraction-number (c ∷ cs) n h long =
    let parts = and_parts (c == 46) (begins_with is_digit cs) h in
    record {
      inside = (let i = long.inside in omega arith);
      passes = rw (one-add) (point_alike c (take n cs) parts.0 ∙ long.passes);
      longest = longer;
    }
  where
    longer : (m : ℕ) → 1 + n < m → m ≤ length (c ∷ cs) → is_number (take m (c ∷ cs)) ≡ false
    longer zero lt le = absurd (omega arith)
    longer (suc m) lt le =
        point_alike c (take m cs) (and_parts (c == 46) (begins_with is_digit cs) h).0
        ∙ long.longest m (omega arith) (omega arith)

-- bytes that begin with neither a digit nor `.` and a digit have no number in front
pub no-number : (bytes : List ℕ) → begins_with is_digit bytes ≡ false
    → (begins_with (λ c. c == 46) bytes && begins_with is_digit (drop 1 bytes)) ≡ false → HasNone is_number bytes
no-number [] h k zero le = refl
no-number [] h k (suc m) le = refl
no-number (c ∷ cs) h k zero le = refl
no-number (c ∷ []) h k (suc m) le = by_front m (c == 46)
  where
    by_front : (m : ℕ) (b : Bool) → (is_digits (c ∷ take m []) || (b && is_digits (take m []))) ≡ false
    by_front zero true = rw h refl
    by_front zero false = rw h refl
    by_front (suc m) true = rw h refl
    by_front (suc m) false = rw h refl
no-number (c ∷ d ∷ cs) h k (suc zero) le = by_point (c == 46)
  where
    by_point : (b : Bool) → (is_digits (c ∷ []) || (b && false)) ≡ false
    by_point true = rw h refl
    by_point false = rw h refl
no-number (c ∷ d ∷ cs) h k (suc (suc m)) le = by_point (c == 46) refl
  where
    by_point : (b : Bool) → (c == 46) ≡ b → (is_digits (c ∷ d ∷ take m cs) || (b && is_digits (d ∷ take m cs))) ≡ false
    by_point true is = let digit : is_digit d ≡ false = rw is at k in rw (h, digit) refl
    by_point false is = rw h refl
