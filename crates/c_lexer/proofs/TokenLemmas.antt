-- The longest token in front of some bytes, from the longest of each kind.
use Rattle.std.proofs.Common.{◌≡◌, ℕ, zero, suc, ◌<◌, ◌≤◌, Bool, true, false, ◌&&◌, ◌||◌, ◌==◌, List, [], ◌∷◌, take, drop, refl, arith, nat_eq, Option, Some, None, is_some, inl, inr, ◌⊎◌}
use Rattle.std.proofs.lemmas.Bool.{and_parts, or_parts, or_cases, or_right, eqb-true}
use Rattle.std.proofs.lemmas.Bool.Decides.{nat_tests}
use Rattle.std.specs.List.{list_all, starts_with}
use Rattle.c_lexer.specs.Words.{sign_kind}
use Rattle.c_lexer.specs.Spelling.{is_wide, is_letter, is_digit, is_word_byte, is_digits, is_quoted, is_word, is_number, is_char, is_text, is_dollar, is_sign, is_token, begins_with, IsLongestOf, HasNone}
use Rattle.c_lexer.proofs.QuoteLemmas.{wide_cases}
use Rattle.c_lexer.proofs.SignLemmas.{sign-letter, sign-digit, sign-then_digit, sign-quote, sign-double, sign-dollar}

-- no kind of token, and some kind
pub no_token : (a : List ℕ) → is_word a ≡ false → is_number a ≡ false → is_char a ≡ false → is_text a ≡ false
    → is_dollar a ≡ false → sign_kind a ≡ None → is_token a ≡ false
no_token a w n c t d s = rw (w, n, c, t, d, s) refl

word_token : (a : List ℕ) → is_word a ≡ true → is_token a ≡ true
word_token a h = rw h refl

number_token : (a : List ℕ) → is_number a ≡ true → is_token a ≡ true
number_token a h = rw (or_right (is_word a) (is_number a) h) refl

char_token : (a : List ℕ) → is_char a ≡ true → is_token a ≡ true
char_token a h = rw (or_right (is_word a || is_number a) (is_char a) h) refl

text_token : (a : List ℕ) → is_text a ≡ true → is_token a ≡ true
text_token a h = rw (or_right (is_word a || is_number a || is_char a) (is_text a) h) refl

dollar_token : (a : List ℕ) → is_dollar a ≡ true → is_token a ≡ true
dollar_token a h = rw (or_right (is_word a || is_number a || is_char a || is_text a) (is_dollar a) h) refl

sign_token : (a : List ℕ) → is_sign a ≡ true → is_token a ≡ true
sign_token a h = or_right (is_word a || is_number a || is_char a || is_text a || is_dollar a) (is_sign a) h

-- bytes that are no sign have no kind of one
no_kind : (a : List ℕ) → is_sign a ≡ false → sign_kind a ≡ None
no_kind a h = by_case (sign_kind a) h
  where
    by_case : {A : Type 0} (o : Option A) → is_some o ≡ false → o ≡ None
    by_case None e = refl
    by_case (Some x) e = absurd cc

-- the first byte of a longer front
begins_longer : (p : ℕ → Bool) (k : ℕ) (bytes : List ℕ) (n m : ℕ) → n ≤ m → begins_with p (drop k (take n bytes)) ≡ true
    → begins_with p (drop k (take m bytes)) ≡ true
begins_longer p zero bytes zero m le h = absurd cc
begins_longer p zero [] (suc n) m le h = absurd cc
begins_longer p zero (c ∷ cs) (suc n) zero le h = absurd (omega arith)
begins_longer p zero (c ∷ cs) (suc n) (suc m) le h = h
begins_longer p (suc k) bytes zero m le h = absurd cc
begins_longer p (suc k) [] (suc n) m le h = absurd cc
begins_longer p (suc k) (c ∷ cs) (suc n) zero le h = absurd (omega arith)
begins_longer p (suc k) (c ∷ cs) (suc n) (suc m) le h = begins_longer p k cs n m (omega arith) h

-- a front that is not empty begins as the bytes do
begins_front : (p : ℕ → Bool) (bytes : List ℕ) (m : ℕ) → 0 < m → begins_with p bytes ≡ true
    → begins_with p (take m bytes) ≡ true
begins_front p bytes zero lt h = absurd (omega arith)
begins_front p [] (suc m) lt h = absurd cc
begins_front p (c ∷ cs) (suc m) lt h = h

-- a kind that begins with one sort of byte
word_apart : (bytes : List ℕ) (m : ℕ) → begins_with is_letter bytes ≡ false → is_word (take m bytes) ≡ false
word_apart bytes zero h = refl
word_apart [] (suc m) h = refl
word_apart (c ∷ cs) (suc m) h = rw h refl

-- a front of bytes that do not begin with `$` is no `$` word
dollar_apart : (bytes : List ℕ) (m : ℕ) → begins_with (λ c. c == 36) bytes ≡ false → is_dollar (take m bytes) ≡ false
dollar_apart bytes zero h = refl
dollar_apart [] (suc m) h = refl
dollar_apart (c ∷ cs) (suc m) h = rw h refl

pub letter_number : (a : List ℕ) → begins_with is_letter a ≡ true → is_number a ≡ false
letter_number [] h = absurd cc
letter_number (c ∷ cs) h = rw (
  let e : is_digit c ≡ false = grind (arith, nat_tests) in e,
  let e : (c == 46) ≡ false = grind (arith, nat_tests) in e,
) refl

letter_dollar : (a : List ℕ) → begins_with is_letter a ≡ true → is_dollar a ≡ false
letter_dollar [] h = absurd cc
letter_dollar (c ∷ cs) h = rw (let e : (c == 36) ≡ false = grind (arith, nat_tests) in e) refl

-- from a letter on, where no literal is in front, the longest word is the longest token
pub longest-word : (bytes : List ℕ) (n : ℕ) → HasNone is_char bytes → HasNone is_text bytes
    → begins_with is_letter bytes ≡ true → IsLongestOf is_word bytes n → IsLongestOf is_token bytes n
longest-word bytes n chars texts h long = record {
  inside = long.inside;
  passes = word_token (take n bytes) long.passes;
  longest = λ m lt le.
      let front = begins_front is_letter bytes m (omega arith) h in
      no_token (take m bytes) (long.longest m lt le) (letter_number (take m bytes) front) (chars m le) (texts m le)
      (letter_dollar (take m bytes) front) (sign-letter (take m bytes) front);
}

pub dollar_number : (a : List ℕ) → begins_with (λ c. c == 36) a ≡ true → is_number a ≡ false
dollar_number [] h = absurd cc
dollar_number (c ∷ cs) h = let e : c ≡ 36 = eqb-true c 36 h in rw e refl

pub dollar_word : (a : List ℕ) → begins_with (λ c. c == 36) a ≡ true → is_word a ≡ false
dollar_word [] h = absurd cc
dollar_word (c ∷ cs) h = let e : c ≡ 36 = eqb-true c 36 h in rw e refl

-- from `$` on, where no literal is in front, the longest `$` word is the longest token
pub longest-dollar : (bytes : List ℕ) (n : ℕ) → HasNone is_char bytes → HasNone is_text bytes
    → begins_with (λ c. c == 36) bytes ≡ true → IsLongestOf is_dollar bytes n → IsLongestOf is_token bytes n
longest-dollar bytes n chars texts h long = record {
  inside = long.inside;
  passes = dollar_token (take n bytes) long.passes;
  longest = λ m lt le.
      let front = begins_front (λ c. c == 36) bytes m (omega arith) h in
      no_token (take m bytes) (dollar_word (take m bytes) front) (dollar_number (take m bytes) front) (chars m le)
      (texts m le) (long.longest m lt le) (sign-dollar (take m bytes) front);
}

-- a number begins with a digit, or with a byte and a digit
pub number_begins : (a : List ℕ) → is_number a ≡ true
    → (begins_with is_digit a ≡ true) ⊎ (begins_with is_digit (drop 1 a) ≡ true)
number_begins [] h = absurd cc
number_begins (c ∷ cs) h = by_case (or_cases (is_digits (c ∷ cs)) (c == 46 && is_digits cs) h)
  where
    digits_begin : (a : List ℕ) → is_digits a ≡ true → begins_with is_digit a ≡ true
    digits_begin [] e = absurd cc
    digits_begin (d ∷ ds) e = (and_parts (is_digit d) _ e).0

    by_case : (is_digits (c ∷ cs) ≡ true) ⊎ ((c == 46 && is_digits cs) ≡ true)
        → (is_digit c ≡ true) ⊎ (begins_with is_digit cs ≡ true)
    by_case (inl e) = inl (digits_begin (c ∷ cs) e)
    by_case (inr e) = inr (digits_begin cs (and_parts (c == 46) (is_digits cs) e).1)

-- where a front is a number, no longer one is a sign
pub number_sign : (bytes : List ℕ) (n m : ℕ) → n ≤ m → is_number (take n bytes) ≡ true → sign_kind (take m bytes) ≡ None
number_sign bytes n m le h = by_case (number_begins (take n bytes) h)
  where
    by_case : (begins_with is_digit (take n bytes) ≡ true) ⊎ (begins_with is_digit (drop 1 (take n bytes)) ≡ true)
        → sign_kind (take m bytes) ≡ None
    by_case (inl e) = sign-digit (take m bytes) (begins_longer is_digit 0 bytes n m le e)
    by_case (inr e) = sign-then_digit (take m bytes) (begins_longer is_digit 1 bytes n m le e)

-- with no literal, letter or `$` in front, the longest number is the longest token
pub longest-number : (bytes : List ℕ) (n : ℕ) → HasNone is_char bytes → HasNone is_text bytes
    → begins_with is_letter bytes ≡ false → begins_with (λ c. c == 36) bytes ≡ false →
    IsLongestOf is_number bytes n → IsLongestOf is_token bytes n
longest-number bytes n chars texts letter dollar long = record {
  inside = long.inside;
  passes = number_token (take n bytes) long.passes;
  longest = λ m lt le.
      no_token (take m bytes) (word_apart bytes m letter) (long.longest m lt le) (chars m le) (texts m le)
      (dollar_apart bytes m dollar) (number_sign bytes n m (omega arith) long.passes);
}

-- with no literal, letter, `$` or number in front, the longest sign is the longest token
pub longest-sign : (bytes : List ℕ) (n : ℕ) → HasNone is_char bytes → HasNone is_text bytes
    → begins_with is_letter bytes ≡ false → begins_with (λ c. c == 36) bytes ≡ false →
    HasNone is_number bytes → IsLongestOf is_sign bytes n → IsLongestOf is_token bytes n
longest-sign bytes n chars texts letter dollar numbers long = record {
  inside = long.inside;
  passes = sign_token (take n bytes) long.passes;
  longest = λ m lt le.
      no_token (take m bytes) (word_apart bytes m letter) (numbers m le) (chars m le) (texts m le)
      (dollar_apart bytes m dollar) (no_kind (take m bytes) (long.longest m lt le));
}

pub longest-none : (bytes : List ℕ) → HasNone is_char bytes → HasNone is_text bytes
    → begins_with is_letter bytes ≡ false → begins_with (λ c. c == 36) bytes ≡ false →
    HasNone is_number bytes → HasNone is_sign bytes → HasNone is_token bytes
longest-none bytes chars texts letter dollar numbers none m le =
    no_token (take m bytes) (word_apart bytes m letter) (numbers m le) (chars m le) (texts m le)
    (dollar_apart bytes m dollar) (no_kind (take m bytes) (none m le))

-- Where a literal opens: a quote in front, behind a prefix of one byte, or behind `u8`.
pub data Opens (quote : ℕ) (a : List ℕ) : Type 0 where
  plain : begins_with (λ c. c == quote) a ≡ true → Opens quote a
  wide : begins_with is_wide a ≡ true → begins_with (λ c. c == quote) (drop 1 a) ≡ true → Opens quote a
  utf : begins_with (λ c. c == 117) a ≡ true → begins_with (λ c. c == 56) (drop 1 a) ≡ true
      → begins_with (λ c. c == quote) (drop 2 a) ≡ true → Opens quote a

-- where a front opens a literal, a longer one does too
opens_longer : (quote : ℕ) (bytes : List ℕ) (n m : ℕ) → n ≤ m → Opens quote (take n bytes) → Opens quote (take m bytes)
opens_longer quote bytes n m le (plain e) = plain (begins_longer (λ c. c == quote) 0 bytes n m le e)
opens_longer quote bytes n m le (wide e f) =
    wide (begins_longer is_wide 0 bytes n m le e) (begins_longer (λ c. c == quote) 1 bytes n m le f)
opens_longer quote bytes n m le (utf e f g) =
    utf (begins_longer (λ c. c == 117) 0 bytes n m le e) (begins_longer (λ c. c == 56) 1 bytes n m le f)
    (begins_longer (λ c. c == quote) 2 bytes n m le g)

quoted_begins : (quote : ℕ) (a : List ℕ) → is_quoted quote a ≡ true → begins_with (λ c. c == quote) a ≡ true
quoted_begins quote [] h = absurd cc
quoted_begins quote (c ∷ cs) h = (and_parts (c == quote) _ h).0

-- a byte that is equal to a prefix of one byte is one, and what else was tested holds
prefix_wide : (w c : ℕ) (b : Bool) → is_wide w ≡ true → (nat_eq w c && true && b) ≡ true
    → (is_wide c ≡ true) × (b ≡ true)
prefix_wide w c b h e =
    let parts = and_parts (nat_eq w c && true) b e in
    let same : w ≡ c = eqb-true w c (and_parts (nat_eq w c) true parts.0).0 in
    (rw same at h, parts.1)

-- a character constant opens a literal with a single quote
pub char_opens : (a : List ℕ) → is_char a ≡ true → Opens 39 a
char_opens [] h = absurd cc
char_opens (c ∷ cs) h = by_case (or_cases (is_quoted 39 (c ∷ cs)) _ h)
  where
    behind : (w : ℕ) → is_wide w ≡ true → (nat_eq w c && true && is_quoted 39 cs) ≡ true → Opens 39 (c ∷ cs)
    behind w h e = let parts = prefix_wide w c (is_quoted 39 cs) h e in wide parts.0 (quoted_begins 39 cs parts.1)

    by_last : ((nat_eq 85 c && true && is_quoted 39 cs) ≡ true) ⊎ (false ≡ true) → Opens 39 (c ∷ cs)
    by_last (inl e) = behind 85 refl e
    by_last (inr e) = absurd cc

    by_second : ((nat_eq 117 c && true && is_quoted 39 cs) ≡ true)
        ⊎ ((nat_eq 85 c && true && is_quoted 39 cs || false) ≡ true)
        → Opens 39 (c ∷ cs)
    by_second (inl e) = behind 117 refl e
    by_second (inr e) = by_last (or_cases _ _ e)

    by_first : ((nat_eq 76 c && true && is_quoted 39 cs) ≡ true)
        ⊎ ((nat_eq 117 c && true && is_quoted 39 cs || (nat_eq 85 c && true && is_quoted 39 cs || false)) ≡ true)
        → Opens 39 (c ∷ cs)
    by_first (inl e) = behind 76 refl e
    by_first (inr e) = by_second (or_cases _ _ e)

    by_case : (is_quoted 39 (c ∷ cs) ≡ true) ⊎ ((nat_eq 76 c && true && is_quoted 39 cs
        || (nat_eq 117 c && true && is_quoted 39 cs || (nat_eq 85 c && true && is_quoted 39 cs || false))) ≡ true)
        → Opens 39 (c ∷ cs)
    by_case (inl e) = plain (quoted_begins 39 (c ∷ cs) e)
    by_case (inr e) = by_first (or_cases _ _ e)

-- a string literal opens a literal with a double quote
pub text_opens : (a : List ℕ) → is_text a ≡ true → Opens 34 a
text_opens [] h = absurd cc
text_opens (c ∷ cs) h = by_case (or_cases (is_quoted 34 (c ∷ cs)) _ h)
  where
    utf_opens : (a : List ℕ) → (starts_with nat_eq a (117 ∷ 56 ∷ []) && is_quoted 34 (drop 2 a)) ≡ true → Opens 34 a
    utf_opens [] e = absurd cc
    utf_opens (d ∷ []) e =
        absurd (let parts = and_parts (nat_eq 117 d && false) _ e in
        let more = and_parts (nat_eq 117 d) false parts.0 in cc)
    utf_opens (d ∷ f ∷ r) e =
        let parts = and_parts (nat_eq 117 d && (nat_eq 56 f && true)) (is_quoted 34 r) e in
        let first = and_parts (nat_eq 117 d) (nat_eq 56 f && true) parts.0 in
        let second = and_parts (nat_eq 56 f) true first.1 in
        utf (let g : 117 ≡ d = eqb-true 117 d first.0 in rw (← g) refl)
        (let g : 56 ≡ f = eqb-true 56 f second.0 in rw (← g) refl) (quoted_begins 34 r parts.1)

    behind : (w : ℕ) → is_wide w ≡ true → (nat_eq w c && true && is_quoted 34 cs) ≡ true → Opens 34 (c ∷ cs)
    behind w h e = let parts = prefix_wide w c (is_quoted 34 cs) h e in wide parts.0 (quoted_begins 34 cs parts.1)

    by_last : ((starts_with nat_eq (c ∷ cs) (117 ∷ 56 ∷ []) && is_quoted 34 (drop 1 cs)) ≡ true) ⊎ (false ≡ true)
        → Opens 34 (c ∷ cs)
    by_last (inl e) = utf_opens (c ∷ cs) e
    by_last (inr e) = absurd cc

    by_third : ((nat_eq 85 c && true && is_quoted 34 cs) ≡ true)
        ⊎ ((starts_with nat_eq (c ∷ cs) (117 ∷ 56 ∷ []) && is_quoted 34 (drop 1 cs) || false) ≡ true)
        → Opens 34 (c ∷ cs)
    by_third (inl e) = behind 85 refl e
    by_third (inr e) = by_last (or_cases _ _ e)

    by_second : ((nat_eq 117 c && true && is_quoted 34 cs) ≡ true) ⊎ ((nat_eq 85 c && true && is_quoted 34 cs
        || (starts_with nat_eq (c ∷ cs) (117 ∷ 56 ∷ []) && is_quoted 34 (drop 1 cs) || false)) ≡ true)
        → Opens 34 (c ∷ cs)
    by_second (inl e) = behind 117 refl e
    by_second (inr e) = by_third (or_cases _ _ e)

    by_first : ((nat_eq 76 c && true && is_quoted 34 cs) ≡ true)
        ⊎ ((nat_eq 117 c && true && is_quoted 34 cs || (nat_eq 85 c && true && is_quoted 34 cs
        || (starts_with nat_eq (c ∷ cs) (117 ∷ 56 ∷ []) && is_quoted 34 (drop 1 cs) || false))) ≡ true)
        → Opens 34 (c ∷ cs)
    by_first (inl e) = behind 76 refl e
    by_first (inr e) = by_second (or_cases _ _ e)

    by_case : (is_quoted 34 (c ∷ cs) ≡ true)
        ⊎ ((nat_eq 76 c && true && is_quoted 34 cs || (nat_eq 117 c && true && is_quoted 34 cs || (nat_eq 85 c && true
        && is_quoted 34 cs || (starts_with nat_eq (c ∷ cs) (117 ∷ 56 ∷ []) && is_quoted 34 (drop 1 cs) || false))))
        ≡ true) → Opens 34 (c ∷ cs)
    by_case (inl e) = plain (quoted_begins 34 (c ∷ cs) e)
    by_case (inr e) = by_first (or_cases _ _ e)

-- the other kinds, none of which bytes are where a literal opens
pub record Others (a : List ℕ) : Type 0 where
  pub word : is_word a ≡ false
  pub number : is_number a ≡ false
  pub dollar : is_dollar a ≡ false
  pub sign : sign_kind a ≡ None

-- a prefix of one byte is a letter
wide_letter : (c : ℕ) → is_wide c ≡ true → is_letter c ≡ true
wide_letter c h = by_case (wide_cases c h)
  where
    by_case : ((c ≡ 76) ⊎ (c ≡ 117)) ⊎ (c ≡ 85) → is_letter c ≡ true
    by_case (inl (inl e)) = rw e refl
    by_case (inl (inr e)) = rw e refl
    by_case (inr e) = rw e refl

-- a letter in front, and a byte of no word among the bytes behind it
letter_others : (c : ℕ) (cs : List ℕ) → is_letter c ≡ true → list_all is_word_byte cs ≡ false → Others (c ∷ cs)
letter_others c cs h stops = record {
  word = rw (h, stops) refl;
  number = letter_number (c ∷ cs) h;
  dollar = letter_dollar (c ∷ cs) h;
  sign = sign-letter (c ∷ cs) h;
}

module _ (quote : ℕ) (no_part : is_word_byte quote ≡ false) (no_dollar : (quote == 36) ≡ false)
    (no_point : (quote == 46) ≡ false)
    (none : (a : List ℕ) → begins_with (λ c. c == quote) a ≡ true → sign_kind a ≡ None) where
  pub opens_others : (a : List ℕ) → Opens quote a → Others a
  opens_others [] (plain e) = absurd cc
  opens_others (c ∷ cs) (plain e) =
      let same : c ≡ quote = eqb-true c quote e in
      let parts : (is_letter quote ≡ false) × (is_digit quote ≡ false) =
      or_parts (is_letter quote) (is_digit quote) no_part in
      record {
        word = rw (same, parts.0) refl;
        number = rw (same, parts.1, no_point) refl;
        dollar = rw (same, no_dollar) refl;
        sign = none (c ∷ cs) e;
      }
  opens_others [] (wide e f) = absurd cc
  opens_others (c ∷ []) (wide e f) = absurd cc
  opens_others (c ∷ d ∷ cs) (wide e f) =
      letter_others c (d ∷ cs) (wide_letter c e) (let same : d ≡ quote = eqb-true d quote f in rw (same, no_part) refl)
  opens_others [] (utf e f g) = absurd cc
  opens_others (c ∷ []) (utf e f g) = absurd cc
  opens_others (c ∷ d ∷ []) (utf e f g) = absurd cc
  opens_others (c ∷ d ∷ h ∷ cs) (utf e f g) =
      letter_others c (d ∷ h ∷ cs) (let first : c ≡ 117 = eqb-true c 117 e in rw first refl)
      (let second : d ≡ 56 = eqb-true d 56 f in let same : h ≡ quote = eqb-true h quote g in
      rw (second, same, no_part) refl)

-- no string literal stands where a character constant opens
char_text : (a : List ℕ) → Opens 39 a → is_text a ≡ false
char_text [] (plain e) = absurd cc
char_text (c ∷ cs) (plain e) = let same : c ≡ 39 = eqb-true c 39 e in rw same refl
char_text [] (wide e f) = absurd cc
char_text (c ∷ []) (wide e f) = absurd cc
char_text (c ∷ d ∷ cs) (wide e f) = by_case (wide_cases c e) (eqb-true d 39 f)
  where
    by_case : ((c ≡ 76) ⊎ (c ≡ 117)) ⊎ (c ≡ 85) → d ≡ 39 → is_text (c ∷ d ∷ cs) ≡ false
    by_case (inl (inl g)) same = rw (g, same) refl
    by_case (inl (inr g)) same = rw (g, same) refl
    by_case (inr g) same = rw (g, same) refl
char_text [] (utf e f g) = absurd cc
char_text (c ∷ []) (utf e f g) = absurd cc
char_text (c ∷ d ∷ []) (utf e f g) = absurd cc
char_text (c ∷ d ∷ h ∷ cs) (utf e f g) =
    let first : c ≡ 117 = eqb-true c 117 e in
    let second : d ≡ 56 = eqb-true d 56 f in
    let same : h ≡ 39 = eqb-true h 39 g in
    rw (first, second, same) refl

-- the longest character constant in front is the longest token
pub longest-char : (bytes : List ℕ) (n : ℕ) → IsLongestOf is_char bytes n → IsLongestOf is_token bytes n
longest-char bytes n long = record {
  inside = long.inside;
  passes = char_token (take n bytes) long.passes;
  longest = λ m lt le.
      let opens = opens_longer 39 bytes n m (omega arith) (char_opens (take n bytes) long.passes) in
      let others = opens_others 39 refl refl refl sign-quote (take m bytes) opens in
      no_token (take m bytes) others.word others.number (long.longest m lt le)
      (char_text (take m bytes) opens) others.dollar others.sign;
}

-- the longest string literal, where no character constant is in front, is the longest token
pub longest-text : (bytes : List ℕ) (n : ℕ) → HasNone is_char bytes → IsLongestOf is_text bytes n
    → IsLongestOf is_token bytes n
longest-text bytes n chars long = record {
  inside = long.inside;
  passes = text_token (take n bytes) long.passes;
  longest = λ m lt le.
      let opens = opens_longer 34 bytes n m (omega arith) (text_opens (take n bytes) long.passes) in
      let others = opens_others 34 refl refl refl sign-double (take m bytes) opens in
      no_token (take m bytes) others.word others.number (chars m le) (long.longest m lt le) others.dollar others.sign;
}
