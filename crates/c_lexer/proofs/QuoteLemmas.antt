-- Character constants and string literals in front of some bytes.
use Rattle.std.proofs.Common.{◌≡◌, ℕ, zero, suc, ◌+◌, ◌-◌, ◌<◌, ◌≤◌, Bool, true, false, ◌&&◌, ◌||◌, ◌==◌, List, [], ◌∷◌, length, take, drop, refl, ◌∙◌, arith, nat_eq, inl, inr, ◌⊎◌}
use Rattle.std.proofs.lemmas.Bool.{and_parts, or_cases, eqb-true, cases_lt}
use Rattle.std.proofs.lemmas.List.{length-drop}
use Rattle.std.proofs.Common.{Option, Some, None, MatchOption}
use Rattle.qual_base.proofs.Tests.{or_false}
use Rattle.c_lexer.specs.Spelling.{is_wide, is_quoted, is_quoted_tail, is_char, is_text, begins_with, IsLongestOf, NoneShorter, HasNone}

-- a test of the whole front is another test of the front behind the first k bytes, and fewer bytes fail
pub record IsShifted (test inner : List ℕ → Bool) (bytes : List ℕ) (k : ℕ) : Type 0 where
  pub fits : k ≤ length bytes
  pub behind : (m : ℕ) → k ≤ m → test (take m bytes) ≡ inner (take (m - k) (drop k bytes))
  pub before : (m : ℕ) → m < k → test (take m bytes) ≡ false

-- the longest front of what stands behind a prefix makes, with the prefix, the longest of all
pub shifted-long : {test inner : List ℕ → Bool} {bytes : List ℕ} {k : ℕ} → IsShifted test inner bytes k → (n : ℕ)
    → IsLongestOf inner (drop k bytes) n → IsLongestOf test bytes (k + n)
shifted-long {test} {inner} {bytes} {k} s n long =
    let size = length-drop k bytes in
    record {
      inside = (let f = s.fits in let i = long.inside in omega arith);
      passes = s.behind (k + n) (omega arith) ∙ rw (let e : k + n - k ≡ n = omega arith in e) long.passes;
      longest = λ m lt le. s.behind m (omega arith) ∙ long.longest (m - k) (omega arith) (omega arith);
    }

-- where no front passes behind a prefix, none passes with it
pub shifted-none : {test inner : List ℕ → Bool} {bytes : List ℕ} {k : ℕ} → IsShifted test inner bytes k
    → HasNone inner (drop k bytes) → HasNone test bytes
shifted-none {test} {inner} {bytes} {k} s none m le = by_order (cases_lt m k)
  where
    by_order : (m < k) ⊎ (k ≤ m) → test (take m bytes) ≡ false
    by_order (inl lt) = s.before m lt
    by_order (inr ge) = s.behind m ge ∙ none (m - k) (let size = length-drop k bytes in omega arith)

-- where no shorter front passes behind a prefix, none passes with it
pub shifted-shorter : {test inner : List ℕ → Bool} {bytes : List ℕ} {k : ℕ} → IsShifted test inner bytes k → (n : ℕ)
    → NoneShorter inner (drop k bytes) n → NoneShorter test bytes (k + n)
shifted-shorter {test} {inner} {bytes} {k} s n none m lt = by_order (cases_lt m k)
  where
    by_order : (m < k) ⊎ (k ≤ m) → test (take m bytes) ≡ false
    by_order (inl lo) = s.before m lo
    by_order (inr ge) = s.behind m ge ∙ none (m - k) (omega arith)

-- a test of c ∷ cs that tests cs
shifted_one : (test inner : List ℕ → Bool) (c : ℕ) (cs : List ℕ) → test [] ≡ false
    → ((r : List ℕ) → test (c ∷ r) ≡ inner r) → IsShifted test inner (c ∷ cs) 1
shifted_one test inner c cs nil same = record { fits = omega arith; behind = behind; before = before }
  where
    behind : (m : ℕ) → 1 ≤ m → test (take m (c ∷ cs)) ≡ inner (take (m - 1) cs)
    behind zero le = absurd (omega arith)
    behind (suc m) le = rw (let e : suc m - 1 ≡ m = omega arith in e) (same (take m cs))

    before : (m : ℕ) → m < 1 → test (take m (c ∷ cs)) ≡ false
    before zero lt = nil
    before (suc m) lt = absurd (omega arith)

pub quoted-shifted : (quote : ℕ) (bytes : List ℕ) → begins_with (λ c. c == quote) bytes ≡ true
    → IsShifted (is_quoted quote) (is_quoted_tail quote) bytes 1
quoted-shifted quote [] h = absurd cc
quoted-shifted quote (c ∷ cs) h = shifted_one (is_quoted quote) (is_quoted_tail quote) c cs refl (λ r. rw h refl)

-- a prefix of one byte is `L`, `u` or `U`
pub wide_cases : (c : ℕ) → is_wide c ≡ true → ((c ≡ 76) ⊎ (c ≡ 117)) ⊎ (c ≡ 85)
wide_cases c h = by_last (or_cases (c == 76 || c == 117) (c == 85) h)
  where
    by_first : ((c == 76) ≡ true) ⊎ ((c == 117) ≡ true) → ((c ≡ 76) ⊎ (c ≡ 117)) ⊎ (c ≡ 85)
    by_first (inl e) = inl (inl (eqb-true c 76 e))
    by_first (inr e) = inl (inr (eqb-true c 117 e))

    by_last : ((c == 76 || c == 117) ≡ true) ⊎ ((c == 85) ≡ true) → ((c ≡ 76) ⊎ (c ≡ 117)) ⊎ (c ≡ 85)
    by_last (inl e) = by_first (or_cases (c == 76) (c == 117) e)
    by_last (inr e) = inr (eqb-true c 85 e)

-- behind a prefix of one byte a character constant is what its quotes enclose
char_behind : (c : ℕ) → is_wide c ≡ true → (r : List ℕ) → is_char (c ∷ r) ≡ is_quoted 39 r
char_behind c h r = by_case (wide_cases c h)
  where
    by_case : ((c ≡ 76) ⊎ (c ≡ 117)) ⊎ (c ≡ 85) → is_char (c ∷ r) ≡ is_quoted 39 r
    by_case (inl (inl e)) = rw e (or_false (is_quoted 39 r))
    by_case (inl (inr e)) = rw e (or_false (is_quoted 39 r))
    by_case (inr e) = rw e (or_false (is_quoted 39 r))

pub char-shifted : (bytes : List ℕ) → begins_with is_wide bytes ≡ true → IsShifted is_char (is_quoted 39) bytes 1
char-shifted [] h = absurd cc
char-shifted (c ∷ cs) h = shifted_one is_char (is_quoted 39) c cs refl (char_behind c h)

not_wide : (c : ℕ) → is_wide c ≡ false → (nat_eq 76 c ≡ false) × (nat_eq 117 c ≡ false) × (nat_eq 85 c ≡ false)
not_wide c h = (grind arith, grind arith, grind arith)

-- without a prefix a front is a character constant just if it is quoted
pub char-plain : (bytes : List ℕ) → begins_with is_wide bytes ≡ false → (m : ℕ)
    → is_char (take m bytes) ≡ is_quoted 39 (take m bytes)
char-plain [] h zero = refl
char-plain [] h (suc m) = refl
char-plain (c ∷ cs) h zero = refl
char-plain (c ∷ cs) h (suc m) = let w = not_wide c h in rw (w.0, w.1, w.2) (or_false (is_quoted 39 (c ∷ take m cs)))

-- `u8` stands in front
abbrev pub begins_u8 : List ℕ → Bool
begins_u8 bytes = begins_with (λ c. c == 117) bytes && begins_with (λ c. c == 56) (drop 1 bytes)

-- the tests of the four prefixes, where the last fails
only_one : (b : Bool) → (b || (false || (false || false))) ≡ b
only_one true = refl
only_one false = refl

text_u : (r : List ℕ) → begins_with (λ c. c == 56) r ≡ false → is_text (117 ∷ r) ≡ is_quoted 34 r
text_u [] h = refl
text_u (d ∷ r) h = rw (let e : nat_eq 56 d ≡ false = grind arith in e) (or_false (is_quoted 34 (d ∷ r)))

-- behind a prefix of one byte that is no `u8` a string literal is what its quotes enclose
text_behind : (c : ℕ) → is_wide c ≡ true → (r : List ℕ) → begins_u8 (c ∷ r) ≡ false → is_text (c ∷ r) ≡ is_quoted 34 r
text_behind c h r short = by_case (wide_cases c h)
  where
    by_case : ((c ≡ 76) ⊎ (c ≡ 117)) ⊎ (c ≡ 85) → is_text (c ∷ r) ≡ is_quoted 34 r
    by_case (inl (inl e)) = rw e (or_false (is_quoted 34 r))
    by_case (inl (inr e)) = rw e (text_u r (rw e at short))
    by_case (inr e) = rw e (or_false (is_quoted 34 r))

-- a front of bytes that do not begin with `u8` does not either
u8_front : (c : ℕ) (cs : List ℕ) (m : ℕ) → begins_u8 (c ∷ cs) ≡ false → begins_u8 (c ∷ take m cs) ≡ false
u8_front c cs zero h = by_test (c == 117)
  where
    by_test : (b : Bool) → (b && false) ≡ false
    by_test true = refl
    by_test false = refl
u8_front c [] (suc m) h = h
u8_front c (d ∷ cs) (suc m) h = h

-- behind a prefix of one byte that is no `u8` a string literal is quoted bytes one further
pub text-shifted : (bytes : List ℕ) → begins_with is_wide bytes ≡ true → begins_u8 bytes ≡ false
    → IsShifted is_text (is_quoted 34) bytes 1
text-shifted [] h short = absurd cc
text-shifted (c ∷ cs) h short = record { fits = omega arith; behind = behind; before = before }
  where
    behind : (m : ℕ) → 1 ≤ m → is_text (take m (c ∷ cs)) ≡ is_quoted 34 (take (m - 1) cs)
    behind zero le = absurd (omega arith)
    behind (suc m) le =
        rw (let e : suc m - 1 ≡ m = omega arith in e) (text_behind c h (take m cs) (u8_front c cs m short))

    before : (m : ℕ) → m < 1 → is_text (take m (c ∷ cs)) ≡ false
    before zero lt = refl
    before (suc m) lt = absurd (omega arith)

-- behind `u8` a string literal is quoted bytes two further
pub u8-shifted : (bytes : List ℕ) → begins_u8 bytes ≡ true → IsShifted is_text (is_quoted 34) bytes 2
u8-shifted [] h = absurd cc
u8-shifted (c ∷ []) h = absurd (by_test (c == 117) h)
  where
    by_test : (b : Bool) → (b && false) ≡ true → ⊥
    by_test true e = cc
    by_test false e = cc
u8-shifted (c ∷ d ∷ cs) h =
    let parts = and_parts (c == 117) (d == 56) h in
    let first : c ≡ 117 = eqb-true c 117 parts.0 in
    let second : d ≡ 56 = eqb-true d 56 parts.1 in
    record { fits = omega arith; behind = behind first second; before = before first second }
  where
    behind : c ≡ 117 → d ≡ 56 → (m : ℕ) → 2 ≤ m → is_text (take m (c ∷ d ∷ cs)) ≡ is_quoted 34 (take (m - 2) cs)
    behind e f zero le = absurd (omega arith)
    behind e f (suc zero) le = absurd (omega arith)
    behind e f (suc (suc m)) le =
        rw (let g : suc (suc m) - 2 ≡ m = omega arith in g, e, f) (or_false (is_quoted 34 (take m cs)))

    before : c ≡ 117 → d ≡ 56 → (m : ℕ) → m < 2 → is_text (take m (c ∷ d ∷ cs)) ≡ false
    before e f zero lt = refl
    before e f (suc zero) lt = rw e refl
    before e f (suc (suc m)) lt = absurd (omega arith)

-- without a prefix a front is a string literal just if it is quoted
pub text-plain : (bytes : List ℕ) → begins_with is_wide bytes ≡ false → (m : ℕ)
    → is_text (take m bytes) ≡ is_quoted 34 (take m bytes)
text-plain [] h zero = refl
text-plain [] h (suc m) = refl
text-plain (c ∷ cs) h zero = refl
text-plain (c ∷ cs) h (suc m) = let w = not_wide c h in rw (w.0, w.1, w.2) (or_false (is_quoted 34 (c ∷ take m cs)))

-- what a search for the longest front of one test says of another that agrees on each front
pub alike : (test inner : List ℕ → Bool) (bytes : List ℕ) → ((m : ℕ) → test (take m bytes) ≡ inner (take m bytes))
    → (r : Option ℕ) →
    MatchOption r (HasNone inner bytes) (λ n. IsLongestOf inner bytes n)
    → MatchOption r (HasNone test bytes) (λ n. IsLongestOf test bytes n)
alike test inner bytes same None h = λ m le. same m ∙ h m le
alike test inner bytes same (Some n) h =
    record { inside = h.inside; passes = same n ∙ h.passes; longest = λ m lt le. same m ∙ h.longest m lt le }
