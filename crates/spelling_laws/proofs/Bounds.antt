-- The number of a name is less than how many tokens its unit has.
use Rattle.std.proofs.Common.{◌≡◌, ◌⊎◌, inl, inr, ℕ, Bool, ◌+◌, ◌<◌, ◌≤◌, List, [], ◌∷◌, ◌++◌, length, Option, None, Some, take, drop, is_some, unwrap_or, position, bytes_eq, if◌then◌else◌, refl, sym, ◌∙◌, subst, arith}
use Rattle.std.specs.Prelude.{slice_get}
use Rattle.std.proofs.lemmas.List.{length-append}
use Rattle.std.proofs.lemmas.List.Quantifiers.{position-Some}
use Rattle.c_words.specs.declared.kinds.TokenKind.{TokenKind}
use Rattle.c_words.specs.declared.kinds.TokenKind.TheVariants.{Name, Keyword, Number, Char, Text, Punct, Qual, Index, End}
use Rattle.c_lexer.specs.declared.token.Token.{Token}
use Rattle.c_lexer.specs.Names.{name_number, with_name}
use Rattle.c_lexer.specs.Reading.{Meanings, Front, IsKind, names_behind, Reaches}
use Rattle.c_lexer.specs.Reading.Reaches.{begins, skips, takes}
use Rattle.c_lexer.specs.Tokens.{Lexed, IsSpelled}
use Rattle.c_lexer.proofs.ReachLemmas.{pushed}

-- a token adds one name at most, and has the number of one of them
record Grown (old new : List (List ℕ)) (kind : TokenKind) : Type 0 where
  more : length old ≤ length new
  one : length new ≤ length old + 1
  own : (id : ℕ) → kind ≡ Name id → id < length new

-- a name adds itself to the names where it is new, and has the number of one of them
name_grown : (names : List (List ℕ)) (text : List ℕ) (id : ℕ) → id ≡ name_number names text →
    Grown names (with_name names text) (Name id)
name_grown names text id is = by (position (bytes_eq text) names) refl is
  where
    by : (o : Option ℕ) → position (bytes_eq text) names ≡ o → id ≡ unwrap_or o (length names) →
        Grown names (if is_some o then names else names ++ text ∷ []) (Name id)
    by (Some i) at e =
        let within = (position-Some (bytes_eq text) names i text at).0 in record {
          more = omega arith;
          one = omega arith;
          own = λ n same. let m : id ≡ n = cc in subst (λ (k : ℕ). k < length names) (sym e ∙ m) within;
        }
    by None at e =
        let long = length-append names (text ∷ []) in record {
          more = omega (arith, long);
          one = omega (arith, long);
          own = λ n same. let m : id ≡ n = cc in
              subst (λ (k : ℕ). k < length (names ++ text ∷ [])) (sym e ∙ m) (omega (arith, long));
        }

other_grown : (names : List (List ℕ)) (kind : TokenKind) → ((id : ℕ) → kind ≡ Name id → ⊥) → Grown names names kind
other_grown names kind other =
    record { more = omega arith; one = omega arith; own = λ id same. absurd (other id same) }

-- a token of any kind adds one name at most, and none where it is no name
grown : (unit : ℕ) (wide : Bool) (words : Meanings) (names : List (List ℕ)) (text : List ℕ) (kind : TokenKind) →
    IsKind unit wide words names text kind → Grown names (names_behind names text kind) kind
grown unit wide words names text (Name id) is = name_grown names text id is.2
grown unit wide words names text (Keyword word) is = other_grown names (Keyword word) (λ id e. absurd cc)
grown unit wide words names text Number is = other_grown names Number (λ id e. absurd cc)
grown unit wide words names text Char is = other_grown names Char (λ id e. absurd cc)
grown unit wide words names text Text is = other_grown names Text (λ id e. absurd cc)
grown unit wide words names text (Punct sign) is = other_grown names (Punct sign) (λ id e. absurd cc)
grown unit wide words names text (Qual l e) is = other_grown names (Qual l e) (λ id h. absurd cc)
grown unit wide words names text Index is = other_grown names Index (λ id e. absurd cc)
grown unit wide words names text End is = absurd is

abbrev Below : List Token → ℕ → Type 0
Below tokens n = (k : ℕ) (t : Token) (id : ℕ) → slice_get tokens k ≡ Some t → t.kind ≡ Name id → id < n

-- no more names than tokens
record Few (tokens : List Token) (names : List (List ℕ)) : Type 0 where
  few : length names ≤ length tokens
  below : Below tokens (length names)

-- one token more, with the name that it adds, keeps the names no more than the tokens
one_more : (tokens : List Token) (t : Token) (old new : List (List ℕ)) → Few tokens old → Grown old new t.kind →
    Few (tokens ++ t ∷ []) new
one_more tokens t old new h g =
    let long = length-append tokens (t ∷ []) in let few = h.few in let one = g.one in
    record { few = omega (arith, long, few, one); below = λ k s id there is. by k s id (pushed tokens t s k there) is }
  where
    by : (k : ℕ) (s : Token) (id : ℕ) → (slice_get tokens k ≡ Some s) ⊎ (t ≡ s) → s.kind ≡ Name id → id < length new
    by k s id (inl there) is =
        let less = h.below k s id there is in let more = g.more in omega (arith, less, more)
    by k s id (inr same) is = g.own id (subst (λ (it : Token). it.kind ≡ Name id) (sym same) is)

-- the names that were read so far are no more than the tokens, and each token's name is one of them
reaches_few : (unit : ℕ) (wide : Bool) (words : Meanings) (bytes : List ℕ) (front : Front)
    → Reaches unit wide words bytes front →
    Few front.tokens front.names
reaches_few unit wide words bytes front begins = record { few = omega arith; below = λ k t id there is. absurd cc }
reaches_few unit wide words bytes front (skips old new reached s) =
    let before = reaches_few unit wide words bytes old reached in rw (s.tokens, s.names) before
reaches_few unit wide words bytes front (takes old new reached t) =
    let before = reaches_few unit wide words bytes old reached in
    rw (t.tokens, t.names) (one_more old.tokens _ old.names _ before
    (grown unit wide words old.names (take t.n (drop old.at bytes)) t.kind t.is_kind))

-- the number of a name is less than the number of tokens
pub name_below : (words : Meanings) (lexed : Lexed) → IsSpelled words lexed → (k : ℕ) (t : Token) (id : ℕ) →
    slice_get lexed.tokens k ≡ Some t → t.kind ≡ Name id → id < length lexed.tokens
name_below words lexed spelled k t id there is =
    let s = spelled.1 in
    let all = one_more s.front.tokens (record { kind = End; start = length lexed.bytes; end = length lexed.bytes })
    s.front.names s.front.names (reaches_few lexed.unit lexed.wide words lexed.bytes s.front s.reached)
    (other_grown s.front.names End (λ id e. absurd cc)) in
    let whole : Few lexed.tokens s.front.names =
    subst (λ (ts : List Token). Few ts s.front.names) (sym s.tokens_are) all in
    let few = whole.few in let less = whole.below k t id there is in omega (arith, few, less)
