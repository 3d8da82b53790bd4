-- What is read token by token.
use Rattle.std.proofs.Common.{arith, ◌≡◌, ℕ, zero, suc, ◌+◌, ◌<◌, Bool, false, ◌||◌, List, [], ◌∷◌, ◌++◌, length, map, drop, slice_get, slice_range, Option, Some, None, is_some, option_map, unwrap_or, refl, sym, ◌∙◌, ap, append_assoc}
use Rattle.std.proofs.Math.Path.{fun_ext}
use Rattle.std.proofs.lemmas.Option.{same_Some}
use Rattle.c_words.specs.declared.kinds.TokenKind.{TokenKind}
use Rattle.c_lexer.specs.declared.token.Token.{Token}
use Rattle.c_lexer.specs.Tokens.{Lexed, mark_of_kind}
use Rattle.name_rules.specs.Spellings.{Spelling}
use Rattle.c_types.specs.SourceSpelling.Tokens.{is_index, is_annotation, is_zero_text, is_zero, holds_of_some, holds_at, key_behind, spelling_behind}
use Rattle.c_types.specs.SourceSpelling.Keys.{own_or}

-- a token that is an index word or has a mark is an annotation, and no other is
annotation_of : (lexed : Lexed) (o : Option Token) (kind : TokenKind) (mark : Option (ℕ × ℕ))
    → option_map (λ token. token.kind) o ≡ Some kind
    → option_map (λ token. mark_of_kind lexed token.kind) o ≡ Some mark
    → is_index kind || is_some mark ≡ holds_of_some (is_annotation lexed) o
annotation_of lexed None kind mark is has = absurd cc
annotation_of lexed (Some token) kind mark is has =
    ap (λ (k : TokenKind). is_index k || is_some mark) (sym (same_Some token.kind kind is))
    ∙ ap (λ (m : Option (ℕ × ℕ)). is_index token.kind || is_some m)
    (sym (same_Some (mark_of_kind lexed token.kind) mark has))

pub annotation_is : (lexed : Lexed) (n : ℕ) (kind : TokenKind) (mark : Option (ℕ × ℕ))
    → option_map (λ token. token.kind) (slice_get lexed.tokens n) ≡ Some kind
    → option_map (λ token. mark_of_kind lexed token.kind) (slice_get lexed.tokens n) ≡ Some mark
    → is_index kind || is_some mark ≡ holds_at (is_annotation lexed) lexed.tokens n
annotation_is lexed n kind mark is has = annotation_of lexed (slice_get lexed.tokens n) kind mark is has

-- a token is spelled `0` where its bytes are
zero_of : (lexed : Lexed) (o : Option Token) (bytes : List ℕ)
    → option_map (λ token. slice_range lexed.bytes token.start token.end) o ≡ Some bytes
    → is_zero_text bytes ≡ holds_of_some (is_zero lexed) o
zero_of lexed None bytes is = absurd cc
zero_of lexed (Some token) bytes is =
    ap is_zero_text (sym (same_Some (slice_range lexed.bytes token.start token.end) bytes is))

pub zero_is : (lexed : Lexed) (n : ℕ) (bytes : List ℕ)
    → option_map (λ token. slice_range lexed.bytes token.start token.end) (slice_get lexed.tokens n) ≡ Some bytes
    → is_zero_text bytes ≡ holds_at (is_zero lexed) lexed.tokens n
zero_is lexed n bytes is = zero_of lexed (slice_get lexed.tokens n) bytes is

-- the result for the item at a position, put before those of the items behind it, gives those from the position on
dropped : {A : Type 0} (f : A → Bool) (xs : List A) (i : ℕ) (b : Bool) → i < length xs → b ≡ holds_at f xs i
    → b ∷ map f (drop (i + 1) xs) ≡ map f (drop i xs)
dropped f [] i b lt is = absurd (omega arith)
dropped f (x ∷ xs) zero b lt is = ap (λ (c : Bool). c ∷ map f xs) is
dropped f (x ∷ xs) (suc i) b lt is =
    let e : suc i + 1 ≡ suc (i + 1) = omega arith in rw e (dropped f xs i b (omega arith) is)

-- one item more
pub mapped_on : {A : Type 0} (f : A → Bool) (xs : List A) (i : ℕ) (b : Bool) (bs : List Bool) → i < length xs
    → b ≡ holds_at f xs i → (bs ++ b ∷ []) ++ map f (drop (i + 1) xs) ≡ bs ++ map f (drop i xs)
mapped_on f xs i b bs lt is =
    append_assoc bs (b ∷ []) (map f (drop (i + 1) xs)) ∙ ap (λ (cs : List Bool). bs ++ cs) (dropped f xs i b lt is)

-- what was read is found again
pub read_at : {A : Type 0} (f : A → Bool) (xs : List A) (n : ℕ) → unwrap_or (slice_get (map f xs) n) false
    ≡ holds_at f xs n
read_at f [] n = refl
read_at f (x ∷ xs) zero = refl
read_at f (x ∷ xs) (suc n) = read_at f xs n

-- what is read, with the vectors in which it is
abbrev spelled : ℕ → Bool → List Bool → List Bool → List ℕ → Spelling
spelled unit wide words zeros keys =
    record {
      unit = unit;
      wide = wide;
      annotates = λ token. unwrap_or (slice_get words token) false;
      is_naught = λ token. unwrap_or (slice_get zeros token) false;
      key = λ name. unwrap_or (slice_get keys name) name;
    }

abbrev spelled_by : ℕ → Bool → (ℕ → Bool) → (ℕ → Bool) → (ℕ → ℕ) → Spelling
spelled_by unit wide annotates is_naught key =
    record { unit = unit; wide = wide; annotates = annotates; is_naught = is_naught; key = key }

-- a spelling made of a unit's number, width, flags of its tokens and keys is what is read of it behind other units
pub spelled_is : (units : List Lexed) (lexed : Lexed) (unit : ℕ) (wide : Bool) (words zeros : List Bool) (keys : List ℕ)
    → unit ≡ lexed.unit → wide ≡ lexed.wide → words ≡ map (is_annotation lexed) lexed.tokens
    → zeros ≡ map (is_zero lexed) lexed.tokens
    → ((n : ℕ) → own_or keys n ≡ key_behind units lexed n)
    → spelled unit wide words zeros keys ≡ spelling_behind units lexed
spelled_is units lexed unit wide words zeros keys u b w z k =
    let all_words = map (is_annotation lexed) lexed.tokens in
    let all_zeros = map (is_zero lexed) lexed.tokens in
    let word : ℕ → Bool = λ n. holds_at (is_annotation lexed) lexed.tokens n in
    let zero_there : ℕ → Bool = λ n. holds_at (is_zero lexed) lexed.tokens n in
    let read_zero : ℕ → Bool = λ n. unwrap_or (slice_get all_zeros n) false in
    let read_key : ℕ → ℕ = λ n. unwrap_or (slice_get keys n) n in
    ap (λ (u : ℕ). spelled u wide words zeros keys) u ∙ ap (λ (b : Bool). spelled lexed.unit b words zeros keys) b
    ∙ ap (λ (ws : List Bool). spelled lexed.unit lexed.wide ws zeros keys) w
    ∙ ap (λ (zs : List Bool). spelled lexed.unit lexed.wide all_words zs keys) z
    ∙ ap (λ (f : ℕ → Bool). spelled_by lexed.unit lexed.wide f read_zero read_key)
    (fun_ext (λ n. read_at (is_annotation lexed) lexed.tokens n))
    ∙ ap (λ (f : ℕ → Bool). spelled_by lexed.unit lexed.wide word f read_key)
    (fun_ext (λ n. read_at (is_zero lexed) lexed.tokens n))
    ∙ ap (λ (f : ℕ → ℕ). spelled_by lexed.unit lexed.wide word zero_there f) (fun_ext (λ n. k n))
