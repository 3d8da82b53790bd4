-- Tokens that bytes spell have no line feed in them.
use Rattle.std.proofs.Common.{◌≡◌, ℕ, ◌+◌, ◌-◌, Bool, false, inl, inr, List, [], ◌∷◌, ◌++◌, length, take, drop, slice_get, slice_range, Option, Some, None, unwrap_or, option_map, refl, sym, ◌∙◌, ap, subst, arith}
use Rattle.std.proofs.lemmas.Option.{slice_get-map}
use Rattle.c_words.specs.declared.kinds.TokenKind.TheVariants.{End}
use Rattle.c_lexer.specs.declared.token.Token.{Token}
use Rattle.c_lexer.specs.Reading.{Meanings, Front, Reaches}
use Rattle.c_lexer.specs.Reading.Reaches.{begins, skips, takes}
use Rattle.c_lexer.specs.Tokens.{Lexed, IsSpelled, start_of, end_of, text_of}
use Rattle.c_lexer.proofs.ReachLemmas.{pushed}
use Rattle.report_laws.specs.Scenes.{TokensHaveNoFeed}
use Rattle.path_checker.proofs.Lacking.{has, none_of}
use Rattle.report_laws.proofs.Tokens.{token_free}

abbrev TokensFree : List ℕ → List Token → Type 0
TokensFree bytes tokens =
    (k : ℕ) (t : Token) → slice_get tokens k ≡ Some t → has 10 (slice_range bytes t.start t.end) ≡ false

-- one more token without a line feed leaves the tokens without one
token_more : (bytes : List ℕ) (tokens : List Token) (token : Token) → TokensFree bytes tokens
    → has 10 (slice_range bytes token.start token.end) ≡ false → TokensFree bytes (tokens ++ token ∷ [])
token_more bytes tokens token free here k t there =
    elim (pushed tokens token t k there) [
      | inl old ↦ free k t old
      | inr same ↦ subst (λ (t : Token). has 10 (slice_range bytes t.start t.end) ≡ false) same here
    ]

taken_range : (bytes : List ℕ) (at n : ℕ) → slice_range bytes at (at + n) ≡ take n (drop at bytes)
taken_range bytes at n = ap (λ k. take k (drop at bytes)) (let same : at + n - at ≡ n = omega arith in same)

-- no token that was read so far has a line feed in it
reached_free : (unit : ℕ) (wide : Bool) (words : Meanings) (bytes : List ℕ) (front : Front)
    → Reaches unit wide words bytes front → TokensFree bytes front.tokens
reached_free unit wide words bytes front begins = λ k t there. absurd cc
reached_free unit wide words bytes front (skips old new reached s) =
    subst (λ (ts : List Token). TokensFree bytes ts) (sym s.tokens) (reached_free unit wide words bytes old reached)
reached_free unit wide words bytes front (takes old new reached t) =
    let here : has 10 (slice_range bytes old.at (old.at + t.n)) ≡ false =
    ap (has 10) (taken_range bytes old.at t.n) ∙ token_free (take t.n (drop old.at bytes)) t.longest.passes in
    subst (λ (ts : List Token). TokensFree bytes ts) (sym t.tokens)
    (token_more bytes old.tokens (record { kind = t.kind; start = old.at; end = old.at + t.n })
    (reached_free unit wide words bytes old reached) here)

-- no token that the bytes of a unit spell has a line feed in it
spelled_free : (words : Meanings) (lexed : Lexed) → IsSpelled words lexed → TokensFree lexed.bytes lexed.tokens
spelled_free words lexed spelled =
    let s = spelled.1 in
    let bytes = lexed.bytes in
    let last : has 10 (slice_range bytes (length bytes) (length bytes)) ≡ false =
    ap (λ k. has 10 (take k (drop (length bytes) bytes)))
    (let none : length bytes - length bytes ≡ 0 = omega arith in none) in
    subst (λ (ts : List Token). TokensFree bytes ts) (sym s.tokens_are)
    (token_more bytes s.front.tokens (record { kind = End; start = length bytes; end = length bytes })
    (reached_free lexed.unit lexed.wide words bytes s.front s.reached) last)

-- the text of a token by its number has no line feed in it, be it there or not
text_free : (lexed : Lexed) (n : ℕ) → TokensFree lexed.bytes lexed.tokens → has 10 (text_of lexed n) ≡ false
text_free lexed n free = by_token (slice_get lexed.tokens n) refl
  where
    by_token : (o : Option Token) → slice_get lexed.tokens n ≡ o → has 10 (text_of lexed n) ≡ false
    by_token None at =
        let first : start_of lexed.tokens n ≡ 0 = ap (λ o. unwrap_or o 0)
        (slice_get-map (λ (t : Token). t.start) lexed.tokens n ∙ ap (option_map (λ (t : Token). t.start)) at) in
        let last : end_of lexed.tokens n ≡ 0 = ap (λ o. unwrap_or o 0)
        (slice_get-map (λ (t : Token). t.end) lexed.tokens n ∙ ap (option_map (λ (t : Token). t.end)) at) in
        rw (first, last) refl
    by_token (Some t) at =
        let first : start_of lexed.tokens n ≡ t.start = ap (λ o. unwrap_or o 0)
        (slice_get-map (λ (t : Token). t.start) lexed.tokens n ∙ ap (option_map (λ (t : Token). t.start)) at) in
        let last : end_of lexed.tokens n ≡ t.end = ap (λ o. unwrap_or o 0)
        (slice_get-map (λ (t : Token). t.end) lexed.tokens n ∙ ap (option_map (λ (t : Token). t.end)) at) in
        rw (first, last) (free n t at)

pub tokens_have_no_feed : TokensHaveNoFeed
tokens_have_no_feed words lexed spelled token =
    none_of 10 (text_of lexed token) (text_free lexed token (spelled_free words lexed spelled))
