-- No token has a line feed in it.
use Rattle.std.proofs.Common.{◌≡◌, ℕ, ◌==◌, Bool, true, false, not, ◌&&◌, ◌||◌, inl, inr, List, [], ◌∷◌, ◌++◌, length, take, drop, Option, Some, None, is_some, codes, refl, sym, ◌∙◌, ap, subst, cond, ne_eqb, take-append-drop}
use Rattle.std.specs.List.{list_all}
use Rattle.std.specs.Str.{bytes_eq}
use Rattle.std.proofs.lemmas.Slice.Eq.{bytes_eq-Decides}
use Rattle.std.proofs.lemmas.Bool.{not-true, or_from, and_parts, or_cases}
use Rattle.c_words.specs.declared.kinds.Punct.{Punct}
use Rattle.c_lexer.specs.Words.{signs, sign_kind}
use Rattle.c_lexer.specs.Spelling.{is_letter, is_word_byte, is_word, is_digit, goes_on, is_number_tail, is_digits, is_number, is_quoted_tail, is_quoted, is_prefixed, is_char, is_text, is_dollar, is_sign, is_token}
use Rattle.c_lexer.proofs.SignLemmas.{no_sign}
use Rattle.path_checker.proofs.Lacking.{has, lacks_append}

-- what passes a test that a line feed does not pass is none
no_feed : (test : ℕ → Bool) (c : ℕ) → test 10 ≡ false → test c ≡ true → (c == 10) ≡ false
no_feed test c fails passes =
    ne_eqb c 10 (λ same. let is : test 10 ≡ true = subst (λ (x : ℕ). test x ≡ true) same passes in
    absurd (let clash : true ≡ false = sym is ∙ fails in cc))

-- bytes that all pass a test which a line feed fails have no line feed
all_free : (test : ℕ → Bool) → test 10 ≡ false → (bytes : List ℕ) → list_all test bytes ≡ true → has 10 bytes ≡ false
all_free test fails [] is = refl
all_free test fails (c ∷ cs) is =
    let parts = and_parts (test c) (list_all test cs) is in
    or_from (c == 10) (has 10 cs) (no_feed test c fails parts.0) (all_free test fails cs parts.1)

-- the bytes of a word have no line feed in them
word_free : (bytes : List ℕ) → is_word bytes ≡ true → has 10 bytes ≡ false
word_free [] is = refl
word_free (c ∷ cs) is =
    let parts = and_parts (is_letter c) (list_all is_word_byte cs) is in
    or_from (c == 10) (has 10 cs) (no_feed is_letter c refl parts.0) (all_free is_word_byte refl cs parts.1)

-- the bytes of a word with a dollar have no line feed in them
dollar_free : (bytes : List ℕ) → is_dollar bytes ≡ true → has 10 bytes ≡ false
dollar_free [] is = refl
dollar_free (c ∷ cs) is =
    let parts = and_parts (c == 36) (list_all is_word_byte cs) is in
    or_from (c == 10) (has 10 cs) (no_feed (λ c. c == 36) c refl parts.0) (all_free is_word_byte refl cs parts.1)

-- the bytes that go on with a number have no line feed in them
tail_free : (before : ℕ) (bytes : List ℕ) → is_number_tail before bytes ≡ true → has 10 bytes ≡ false
tail_free before [] is = refl
tail_free before (c ∷ cs) is =
    let parts = and_parts (goes_on before c) (is_number_tail c cs) is in
    or_from (c == 10) (has 10 cs) (no_feed (goes_on before) c refl parts.0) (tail_free c cs parts.1)

-- the bytes of a number that begins with a digit have no line feed in them
digits_free : (bytes : List ℕ) → is_digits bytes ≡ true → has 10 bytes ≡ false
digits_free [] is = refl
digits_free (c ∷ cs) is =
    let parts = and_parts (is_digit c) (is_number_tail c cs) is in
    or_from (c == 10) (has 10 cs) (no_feed is_digit c refl parts.0) (tail_free c cs parts.1)

-- the bytes of a number, be it one that begins with a dot, have no line feed in them
number_free : (bytes : List ℕ) → is_number bytes ≡ true → has 10 bytes ≡ false
number_free [] is = refl
number_free (c ∷ cs) is = elim (or_cases (is_digits (c ∷ cs)) (c == 46 && is_digits cs) is) [
  | inl digits ↦ digits_free (c ∷ cs) digits
  | inr dot ↦ (let parts = and_parts (c == 46) (is_digits cs) dot in
      or_from (c == 10) (has 10 cs) (no_feed (λ c. c == 46) c refl parts.0) (digits_free cs parts.1))
]

module _ (quote : ℕ) (other : (10 == quote) ≡ false) where
  escaped : (c d : ℕ) (cs : List ℕ) (b : Bool) → (c == 92) ≡ b → (is_quoted_tail quote cs ≡ true → has 10 cs ≡ false)
      → (is_quoted_tail quote (d ∷ cs) ≡ true → has 10 (d ∷ cs) ≡ false) →
      cond b (not (d == 10) && is_quoted_tail quote cs)
      (not (c == quote) && not (c == 10) && is_quoted_tail quote (d ∷ cs)) ≡ true → has 10 (c ∷ d ∷ cs) ≡ false
  escaped c d cs true slash short long is =
      let parts = and_parts (not (d == 10)) (is_quoted_tail quote cs) is in
      or_from (c == 10) (has 10 (d ∷ cs)) (no_feed (λ c. c == 92) c refl slash)
      (or_from (d == 10) (has 10 cs) (not-true (d == 10) parts.0) (short parts.1))
  escaped c d cs false slash short long is =
      let parts = and_parts (not (c == quote) && not (c == 10)) (is_quoted_tail quote (d ∷ cs)) is in
      let plain = and_parts (not (c == quote)) (not (c == 10)) parts.0 in
      or_from (c == 10) (has 10 (d ∷ cs)) (not-true (c == 10) plain.1) (long parts.1)

  quoted_tail_free : (bytes : List ℕ) → is_quoted_tail quote bytes ≡ true → has 10 bytes ≡ false
  quoted_tail_free [] is = refl
  quoted_tail_free (c ∷ []) is = or_from (c == 10) false (no_feed (λ c. c == quote) c other is) refl
  quoted_tail_free (c ∷ d ∷ cs) is = escaped c d cs (c == 92) refl (quoted_tail_free cs) (quoted_tail_free (d ∷ cs)) is

  pub quoted_free : (bytes : List ℕ) → is_quoted quote bytes ≡ true → has 10 bytes ≡ false
  quoted_free [] is = refl
  quoted_free (c ∷ cs) is =
      let parts = and_parts (c == quote) (is_quoted_tail quote cs) is in
      or_from (c == 10) (has 10 cs) (no_feed (λ c. c == quote) c other parts.0) (quoted_tail_free cs parts.1)

  prefix_free : (prefix bytes : List ℕ) → has 10 prefix ≡ false → bytes_eq prefix (take (length prefix) bytes) ≡ true
      → is_quoted quote (drop (length prefix) bytes) ≡ true → has 10 bytes ≡ false
  prefix_free prefix bytes free same is =
      let front : prefix ≡ take (length prefix) bytes = (bytes_eq-Decides prefix (take (length prefix) bytes)).0 same in
      let whole : has 10 (take (length prefix) bytes ++ drop (length prefix) bytes) ≡ false =
      lacks_append 10 (take (length prefix) bytes) (drop (length prefix) bytes) (ap (has 10) (sym front) ∙ free)
      (quoted_free (drop (length prefix) bytes) is) in
      subst (λ (bs : List ℕ). has 10 bs ≡ false) (take-append-drop (length prefix) bytes) whole

  prefixed_free : (prefixes : List (List ℕ)) (bytes : List ℕ) → list_all (λ prefix. not (has 10 prefix)) prefixes ≡ true
      → is_prefixed prefixes quote bytes ≡ true → has 10 bytes ≡ false
  prefixed_free [] bytes free is = absurd cc
  prefixed_free (p ∷ prefixes) bytes free is =
      let frees = and_parts (not (has 10 p)) (list_all (λ prefix. not (has 10 prefix)) prefixes) free in
      elim (or_cases (bytes_eq p (take (length p) bytes) && is_quoted quote (drop (length p) bytes))
      (is_prefixed prefixes quote bytes) is) [
        | inl here ↦ (let parts =
            and_parts (bytes_eq p (take (length p) bytes)) (is_quoted quote (drop (length p) bytes)) here in
            prefix_free p bytes (not-true (has 10 p) frees.0) parts.0 parts.1)
        | inr more ↦ prefixed_free prefixes bytes frees.1 more
      ]

-- the bytes of a character, with a prefix or without, have no line feed in them
char_free : (bytes : List ℕ) → is_char bytes ≡ true → has 10 bytes ≡ false
char_free bytes is =
    elim (or_cases (is_quoted 39 bytes) (is_prefixed (codes "L" ∷ codes "u" ∷ codes "U" ∷ []) 39 bytes) is) [
      | inl plain ↦ quoted_free 39 refl bytes plain
      | inr wide ↦ prefixed_free 39 refl (codes "L" ∷ codes "u" ∷ codes "U" ∷ []) bytes refl wide
    ]

-- the bytes of a string, with a prefix or without, have no line feed in them
text_free : (bytes : List ℕ) → is_text bytes ≡ true → has 10 bytes ≡ false
text_free bytes is =
    elim (or_cases (is_quoted 34 bytes)
    (is_prefixed (codes "L" ∷ codes "u" ∷ codes "U" ∷ codes "u8" ∷ []) 34 bytes) is) [
      | inl plain ↦ quoted_free 34 refl bytes plain
      | inr wide ↦ prefixed_free 34 refl (codes "L" ∷ codes "u" ∷ codes "U" ∷ codes "u8" ∷ []) bytes refl wide
    ]

some_sign : (o : Option Punct) → is_some o ≡ true → o ≡ None → ⊥
some_sign None is none = absurd cc
some_sign (Some sign) is none = absurd cc

sign_free : (bytes : List ℕ) → is_sign bytes ≡ true → has 10 bytes ≡ false
unfolding signs
sign_free bytes is = by_test (has 10 bytes) refl
  where
    by_test : (b : Bool) → has 10 bytes ≡ b → has 10 bytes ≡ false
    by_test true feed = absurd (some_sign (sign_kind bytes) is (no_sign (has 10) bytes refl feed))
    by_test false none = none

-- the bytes of any token have no line feed in them
pub token_free : (bytes : List ℕ) → is_token bytes ≡ true → has 10 bytes ≡ false
token_free bytes is =
    let w = is_word bytes in
    let n = is_number bytes in
    let c = is_char bytes in
    let t = is_text bytes in
    let d = is_dollar bytes in
    elim (or_cases (w || n || c || t || d) (is_sign bytes) is) [
      | inr sign ↦ sign_free bytes sign
      | inl a ↦ elim (or_cases (w || n || c || t) d a) [
        | inr dollar ↦ dollar_free bytes dollar
        | inl b ↦ elim (or_cases (w || n || c) t b) [
          | inr text ↦ text_free bytes text
          | inl e ↦ elim (or_cases (w || n) c e) [
            | inr char ↦ char_free bytes char
            | inl f ↦ elim (or_cases w n f) [ inr number ↦ number_free bytes number | inl word ↦ word_free bytes word ]
          ]
        ]
      ]
    ]
