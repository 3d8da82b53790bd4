-- Tokens with their numbers.
use Rattle.std.proofs.Common.{◌≡◌, ℕ, zero, suc, ◌+◌, ◌≤◌, Bool, true, false, List, [], ◌∷◌, ◌++◌, length, take, drop, Some, refl, ap, ◌∙◌, add-one, arith}
use Rattle.std.specs.Prelude.{if◌then◌else◌, slice_get, option_map}
use Rattle.c_words.specs.declared.kinds.Keyword.TheVariants as keywords
use Rattle.c_words.specs.declared.kinds.TokenKind.{TokenKind}
use Rattle.c_words.specs.declared.kinds.TokenKind.TheVariants as kinds
use Rattle.c_lexer.specs.declared.token.Token.{Token}
use Rattle.c_tree.specs.declared.lexeme.Lexeme.{Lexeme}
use Rattle.c_reading.specs.Reading.{IsNumbered}
use Rattle.c_reading.specs.Tokens.{is_open_paren}
use Rattle.c_parser.specs.Parsing.{is_atomic, numbered, opens, read_before}

-- what a token is read as, by two tests
pub read_is : (kind : TokenKind) (before : Bool)
    → read_before kind before
    ≡ (if before then (if is_atomic kind then kinds.Keyword keywords.AtomicType else kind) else kind)
read_is (kinds.Keyword keywords.Atomic) true = refl
read_is (kinds.Keyword keywords.Atomic) false = refl
read_is kind true = refl
read_is kind false = refl

-- whether `(` stands at a number, where a token stands there
pub opens_is : (tokens : List Token) (n : ℕ) (kind : TokenKind)
    → option_map (λ token. token.kind) (slice_get tokens n) ≡ Some kind → opens (drop n tokens) ≡ is_open_paren kind
opens_is [] n kind is = absurd cc
opens_is (t ∷ tokens) zero kind is = let same : t.kind ≡ kind = cc in rw same refl
opens_is (t ∷ tokens) (suc n) kind is = opens_is tokens n kind is

-- and behind the last token none stands
pub opens_none : (tokens : List Token) (n : ℕ) → length tokens ≤ n → opens (drop n tokens) ≡ false
opens_none [] zero h = refl
opens_none [] (suc n) h = refl
opens_none (t ∷ tokens) zero h = absurd (omega (arith, h))
opens_none (t ∷ tokens) (suc n) h = opens_none tokens n (omega (arith, h))

-- one token more: the tokens up to it, numbered, are those before it and it, read by whether `(` comes next
numbered_on : (first : ℕ) (tokens : List Token) (n at : ℕ) (kind : TokenKind)
    → option_map (λ token. token.kind) (slice_get tokens n) ≡ Some kind → at ≡ first + n →
    take (suc n) (numbered first tokens) ≡ take n (numbered first tokens)
    ++ record { kind = read_before kind (opens (drop (suc n) tokens)); at = at } ∷ []
numbered_on first [] n at kind is place = absurd cc
numbered_on first (t ∷ tokens) zero at kind is place =
    let same : t.kind ≡ kind = cc in
    let here : at ≡ first = omega arith in
    rw (same, here) refl
numbered_on first (t ∷ tokens) (suc n) at kind is place =
    ap (λ (rest : List Lexeme). record { kind = read_before t.kind (opens tokens); at = first } ∷ rest)
    (numbered_on (suc first) tokens n at kind is (omega arith))

-- one token more
pub lexemes_on : (tokens : List Token) (n : ℕ) (kind : TokenKind)
    → option_map (λ token. token.kind) (slice_get tokens n) ≡ Some kind →
    take (n + 1) (numbered 0 tokens) ≡ take n (numbered 0 tokens)
    ++ record { kind = read_before kind (opens (drop (n + 1) tokens)); at = n } ∷ []
lexemes_on tokens n kind is = rw add-one (numbered_on 0 tokens n n kind is (omega arith))

-- as many numbered tokens as there are, or more, are all of them
all_from : (first : ℕ) (tokens : List Token) (n : ℕ) → length tokens ≤ n
    → take n (numbered first tokens) ≡ numbered first tokens
all_from first [] zero h = refl
all_from first [] (suc n) h = refl
all_from first (t ∷ tokens) zero h = absurd (omega (arith, h))
all_from first (t ∷ tokens) (suc n) h =
    ap (λ (rest : List Lexeme). record { kind = read_before t.kind (opens tokens); at = first } ∷ rest)
    (all_from (suc first) tokens n (omega (arith, h)))

-- all tokens
pub all_lexemes : (tokens : List Token) (n : ℕ) → length tokens ≤ n → take n (numbered 0 tokens) ≡ numbered 0 tokens
all_lexemes tokens n h = all_from 0 tokens n h

-- a numbered token has the number of the first and its position among them
place_of : (first : ℕ) (tokens : List Token) (n : ℕ) (t : Lexeme) → slice_get (numbered first tokens) n ≡ Some t
    → t.at ≡ first + n
place_of first [] n t is = cc
place_of first (token ∷ tokens) zero t is =
    let same : record { kind = read_before token.kind (opens tokens); at = first } ≡ t = cc in
    rw (← same) (omega arith)
place_of first (token ∷ tokens) (suc n) t is = place_of (suc first) tokens n t is ∙ omega arith

-- each token has the number of its place
pub numbered_from_zero : (tokens : List Token) → IsNumbered (numbered 0 tokens)
numbered_from_zero tokens n t is = place_of 0 tokens n t is ∙ omega arith
