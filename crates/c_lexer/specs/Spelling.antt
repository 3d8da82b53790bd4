-- The bytes that spell a token (C99, 6.4), and the longest token in front of some bytes.
use Rattle.std.specs.Prelude.{◌≡◌, ℕ, ◌<◌, ◌≤◌, Bool, true, false, ◌&&◌, ◌||◌, not, ◌==◌, List, [], ◌∷◌, length, take, drop, nat_le, nat_eq, codes, is_some, if◌then◌else◌}
use Rattle.std.specs.List.{list_all, list_any, starts_with}
use Rattle.c_lexer.specs.Words.{sign_kind}

-- a decimal digit
abbrev pub is_digit : ℕ → Bool
is_digit c = nat_le 48 c && nat_le c 57

-- a letter or `_`
abbrev pub is_letter : ℕ → Bool
is_letter c = (nat_le 97 c && nat_le c 122) || (nat_le 65 c && nat_le c 90) || c == 95

-- a byte that goes on with a name: a letter, a digit or `_`
abbrev pub is_word_byte : ℕ → Bool
is_word_byte c = is_letter c || is_digit c

-- a name or a keyword (C99, 6.4.2)
abbrev pub is_word : List ℕ → Bool
is_word [] = false
is_word (c ∷ cs) = is_letter c && list_all is_word_byte cs

-- one of `e`, `E`, `p` and `P`
abbrev pub is_exponent : ℕ → Bool
is_exponent c = c == 101 || c == 69 || c == 112 || c == 80

-- whether c goes on with a number behind the byte before: a letter, a digit, `_`, `.`, or a sign behind an exponent
abbrev pub goes_on : ℕ → ℕ → Bool
goes_on before c = is_word_byte c || c == 46 || ((c == 43 || c == 45) && is_exponent before)

-- each byte goes on with a number behind the one before it
abbrev pub is_number_tail : ℕ → List ℕ → Bool
is_number_tail before [] = true
is_number_tail before (c ∷ cs) = goes_on before c && is_number_tail c cs

-- a digit and what goes on with it
abbrev pub is_digits : List ℕ → Bool
is_digits [] = false
is_digits (c ∷ cs) = is_digit c && is_number_tail c cs

-- a preprocessing number (C99, 6.4.8): a digit, or `.` and a digit, and what goes on with it
abbrev pub is_number : List ℕ → Bool
is_number [] = false
is_number (c ∷ cs) = is_digits (c ∷ cs) || (c == 46 && is_digits cs)

-- The bytes behind an opening quote up to its closing one: any but the quote, `\` and a line feed, or `\` and any but a
-- line feed.
abbrev pub is_quoted_tail : ℕ → List ℕ → Bool
is_quoted_tail quote [] = false
is_quoted_tail quote (c ∷ []) = c == quote
is_quoted_tail quote (c ∷ d ∷ cs) =
    if c == 92 then not (d == 10) && is_quoted_tail quote cs
    else not (c == quote) && not (c == 10) && is_quoted_tail quote (d ∷ cs)

-- bytes between two quotes
abbrev pub is_quoted : ℕ → List ℕ → Bool
is_quoted quote [] = false
is_quoted quote (c ∷ cs) = c == quote && is_quoted_tail quote cs

-- a prefix of one byte: `L`, `u` or `U`
abbrev pub is_wide : ℕ → Bool
is_wide c = c == 76 || c == 117 || c == 85

-- bytes between two quotes behind one of some prefixes
abbrev pub is_prefixed : List (List ℕ) → ℕ → List ℕ → Bool
is_prefixed prefixes quote bytes =
    list_any (λ prefix. starts_with nat_eq bytes prefix && is_quoted quote (drop (length prefix) bytes)) prefixes

-- a character constant (C99, 6.4.4.4; C11 for `u` and `U`)
abbrev pub is_char : List ℕ → Bool
is_char bytes = is_quoted 39 bytes || is_prefixed (codes "L" ∷ codes "u" ∷ codes "U" ∷ []) 39 bytes

-- a string literal (C99, 6.4.5; C11 for `u`, `U` and `u8`)
abbrev pub is_text : List ℕ → Bool
is_text bytes = is_quoted 34 bytes || is_prefixed (codes "L" ∷ codes "u" ∷ codes "U" ∷ codes "u8" ∷ []) 34 bytes

-- a `$` word: `$`, then letters, digits and `_`
abbrev pub is_dollar : List ℕ → Bool
is_dollar [] = false
is_dollar (c ∷ cs) = c == 36 && list_all is_word_byte cs

-- an operator or a bracket
abbrev pub is_sign : List ℕ → Bool
is_sign bytes = is_some (sign_kind bytes)

-- bytes that spell a token, of whatever kind
abbrev pub is_token : List ℕ → Bool
is_token bytes = is_word bytes || is_number bytes || is_char bytes || is_text bytes || is_dollar bytes || is_sign bytes

-- a comment begins, so that no token does
abbrev pub begins_comment : List ℕ → Bool
begins_comment bytes = starts_with nat_eq bytes (codes "/*") || starts_with nat_eq bytes (codes "//")

-- the first byte passes the test
abbrev pub begins_with : (ℕ → Bool) → List ℕ → Bool
begins_with test [] = false
begins_with test (c ∷ cs) = test c

-- the first n bytes pass the test, and no longer front does
pub record IsLongestOf (test : List ℕ → Bool) (bytes : List ℕ) (n : ℕ) : Type 0 where
  pub inside : n ≤ length bytes
  pub passes : test (take n bytes) ≡ true
  pub longest : (m : ℕ) → n < m → m ≤ length bytes → test (take m bytes) ≡ false

-- no front passes the test
abbrev pub HasNone : (List ℕ → Bool) → List ℕ → Type 0
HasNone test bytes = (m : ℕ) → m ≤ length bytes → test (take m bytes) ≡ false

-- no front of fewer than n bytes passes
abbrev pub NoneShorter : (List ℕ → Bool) → List ℕ → ℕ → Type 0
NoneShorter test bytes n = (m : ℕ) → m < n → test (take m bytes) ≡ false
