-- Different names of a unit have different numbers.
use Rattle.std.proofs.Common.{◌≡◌, ◌⊎◌, inl, inr, ℕ, zero, suc, ◌+◌, ◌<◌, nat_eq, Bool, true, false, List, [], ◌∷◌, length, map, Option, None, Some, bytes_eq, unwrap_or, if◌then◌else◌, refl, sym, ◌∙◌, ap, subst, arith}
use Rattle.std.specs.Prelude.{All, slice_get, option_map}
use Rattle.std.proofs.lemmas.Bool.{eqb-true}
use Rattle.std.proofs.lemmas.List.Elements.{All-head, All-tail}
use Rattle.std.proofs.lemmas.Option.{slice_get-map}
use Rattle.std.proofs.lemmas.Slice.Eq.{bytes_eq-Decides}
use Rattle.c_words.specs.declared.kinds.TokenKind.{TokenKind}
use Rattle.c_words.specs.declared.kinds.TokenKind.TheVariants.{Name, Keyword, Number, Char, Text, Punct, Qual, Index, End}
use Rattle.c_lexer.specs.declared.token.Token.{Token}
use Rattle.c_lexer.specs.Numbering.{AreNumbered, NamesAreNumbered, kind_of}
use Rattle.c_lexer.specs.Tokens.{Lexed, end_of, start_of, text_of}
use Rattle.c_tree.specs.declared.lexeme.Lexeme.{Lexeme}
use Rattle.c_types.specs.SourceSpelling.Tokens.{bytes_of, is_name, key_among, key_of_some, key_or, name_among, name_of_kind, or_behind, spelled, spelled_among}
use Rattle.first_laws.specs.Firsts.{has_name, is_named}
use Rattle.spelling_laws.specs.Spelled.{IsLexed, SpelledNamesDiffer}
use Rattle.spelling_laws.proofs.Bounds.{name_below}

-- a token of the unit is this name, spelled so
record Stands (lexed : Lexed) (name : ℕ) (text : List ℕ) : Type 0 where
  at : ℕ
  token : Token
  there : slice_get lexed.tokens at ≡ Some token
  kind : token.kind ≡ Name name
  text_is : bytes_of lexed token ≡ text

-- a kind of token that has a name's number is the name of this number
kind_is : (kind : TokenKind) (n : ℕ) → name_of_kind kind ≡ Some n → kind ≡ Name n
kind_is (Name m) n e = let same : m ≡ n = cc in ap (λ (k : ℕ). Name k) same
kind_is (Keyword word) n e = absurd cc
kind_is Number n e = absurd cc
kind_is Char n e = absurd cc
kind_is Text n e = absurd cc
kind_is (Punct sign) n e = absurd cc
kind_is (Qual l el) n e = absurd cc
kind_is Index n e = absurd cc
kind_is End n e = absurd cc

abbrev Are : Lexed → List Token → Type 0
Are lexed ts = (k : ℕ) (t : Token) → slice_get ts k ≡ Some t → (i : ℕ) × (slice_get lexed.tokens i ≡ Some t)

-- the name that is found for a text among tokens is that of a token which is spelled so
among_stands : (lexed : Lexed) (ts : List Token) (text : List ℕ) (a : ℕ) → Are lexed ts →
    name_among lexed ts text ≡ Some a → Stands lexed a text
among_stands lexed [] text a h e = absurd cc
among_stands lexed (t ∷ ts) text a h e =
    by (bytes_eq (bytes_of lexed t) text) (name_of_kind t.kind) refl refl e
    (λ e. among_stands lexed ts text a (λ k s. h (suc k) s) e)
  where
    by : (b : Bool) (o : Option ℕ) → bytes_eq (bytes_of lexed t) text ≡ b → name_of_kind t.kind ≡ o →
        (if b then or_behind o (name_among lexed ts text) else name_among lexed ts text) ≡ Some a →
        (name_among lexed ts text ≡ Some a → Stands lexed a text) → Stands lexed a text
    by false o eq kind e next = next e
    by true None eq kind e next = next e
    by true (Some n) eq kind e next = let here = h zero t refl in record {
      at = here.0;
      token = t;
      there = here.1;
      kind = kind_is t.kind a (kind ∙ e);
      text_is = (bytes_eq-Decides (bytes_of lexed t) text).0 eq;
    }

-- the text that is found for a name among tokens is the spelling of a token with this name
spelled_stands : (lexed : Lexed) (ts : List Token) (name : ℕ) (text : List ℕ) → Are lexed ts →
    spelled_among lexed ts name ≡ Some text → Stands lexed name text
spelled_stands lexed [] name text h e = absurd cc
spelled_stands lexed (t ∷ ts) name text h e =
    by (name_of_kind t.kind) refl e (λ e. spelled_stands lexed ts name text (λ k s. h (suc k) s) e)
  where
    here : (n : ℕ) (b : Bool) → nat_eq n name ≡ b → name_of_kind t.kind ≡ Some n →
        (if b then Some (bytes_of lexed t) else spelled_among lexed ts name) ≡ Some text →
        (spelled_among lexed ts name ≡ Some text → Stands lexed name text) → Stands lexed name text
    here n false eq kind e next = next e
    here n true eq kind e next = let first = h zero t refl in record {
      at = first.0;
      token = t;
      there = first.1;
      kind = kind_is t.kind name (kind ∙ ap (λ (m : ℕ). Some m) (eqb-true n name eq));
      text_is = cc;
    }

    by : (o : Option ℕ) → name_of_kind t.kind ≡ o →
        (if is_name o name then Some (bytes_of lexed t) else spelled_among lexed ts name) ≡ Some text →
        (spelled_among lexed ts name ≡ Some text → Stands lexed name text) → Stands lexed name text
    by None kind e next = next e
    by (Some n) kind e next = here n (nat_eq n name) refl kind e next

token_kind : (lexed : Lexed) (i : ℕ) (t : Token) (n : ℕ) → slice_get lexed.tokens i ≡ Some t → t.kind ≡ Name n →
    kind_of lexed i ≡ Some (Name n)
token_kind lexed i t n there kind =
    ap (option_map (λ (token : Token). token.kind)) there ∙ ap (λ (k : TokenKind). Some k) kind

-- the text of a token by its number is the bytes of the token that is there
token_text : (lexed : Lexed) (i : ℕ) (t : Token) → slice_get lexed.tokens i ≡ Some t
    → text_of lexed i ≡ bytes_of lexed t
token_text lexed i t there =
    let first : start_of lexed.tokens i ≡ t.start = ap (λ o. unwrap_or o 0)
    (slice_get-map (λ (token : Token). token.start) lexed.tokens i
    ∙ ap (option_map (λ (token : Token). token.start)) there) in
    let last : end_of lexed.tokens i ≡ t.end = ap (λ o. unwrap_or o 0)
    (slice_get-map (λ (token : Token). token.end) lexed.tokens i
    ∙ ap (option_map (λ (token : Token). token.end)) there) in
    rw (first, last) refl

-- one name has one spelling, and one spelling one name
both_ways : (lexed : Lexed) (a b : ℕ) (s t : List ℕ) → AreNumbered lexed → Stands lexed a s → Stands lexed b t →
    (a ≡ b → s ≡ t) × (s ≡ t → a ≡ b)
both_ways lexed a b s t numbered x y =
    let two = numbered x.at y.at a b (record {
      one_is = token_kind lexed x.at x.token a x.there x.kind;
      other_is = token_kind lexed y.at y.token b y.there y.kind;
    }) in
    let one : text_of lexed x.at ≡ s = token_text lexed x.at x.token x.there ∙ x.text_is in
    let other : text_of lexed y.at ≡ t = token_text lexed y.at y.token y.there ∙ y.text_is in
    (λ same. sym one ∙ (two.0 same ∙ other), λ same. two.1 (one ∙ (same ∙ sym other)))

all_are : (lexed : Lexed) → Are lexed lexed.tokens
all_are lexed k t e = (k, e)

module _ (law : NamesAreNumbered) where
  -- numbers of two names tell their spellings apart, or else the names
  among : (units : List Lexed) (s t : List ℕ) (m n : ℕ) → All IsLexed units →
      key_among units s m ≡ key_among units t n → (s ≡ t) ⊎ (m ≡ n)
  among [] s t m n h e = inr e
  among (first ∷ others) s t m n h e =
      by (name_among first first.tokens s) (name_among first first.tokens t) refl refl e
      (λ e. among others s t m n (All-tail IsLexed first others h) e)
    where
      it : IsLexed first
      it = All-head IsLexed first others h

      below : (a : ℕ) (text : List ℕ) → name_among first first.tokens text ≡ Some a → a < length first.tokens
      below a text is =
          let x = among_stands first first.tokens text a (all_are first) is in
          name_below it.0 first it.1 x.at x.token a x.there x.kind

      by : (o p : Option ℕ) → name_among first first.tokens s ≡ o → name_among first first.tokens t ≡ p →
          key_or (length first.tokens + key_among others s m) o
          ≡ key_or (length first.tokens + key_among others t n) p →
          (key_among others s m ≡ key_among others t n → (s ≡ t) ⊎ (m ≡ n)) → (s ≡ t) ⊎ (m ≡ n)
      by None None is other e next = next (omega (arith, e))
      by (Some a) (Some b) is other e next =
          inl ((both_ways first a b s t (law it.0 first it.1)
          (among_stands first first.tokens s a (all_are first) is)
          (among_stands first first.tokens t b (all_are first) other)).0 e)
      by (Some a) None is other e next = let less = below a s is in absurd (omega (arith, e, less))
      by None (Some b) is other e next = let less = below b t other in absurd (omega (arith, e, less))

  -- a name among the tokens is spelled somehow
  is_spelled : (lexed : Lexed) (all : List Lexeme) (ts : List Token) (m : ℕ) →
      map (λ (it : Lexeme). it.kind) all ≡ map (λ (token : Token). token.kind) ts → has_name all m ≡ true →
      (text : List ℕ) × (spelled_among lexed ts m ≡ Some text)
  is_spelled lexed [] ts m e has = absurd cc
  is_spelled lexed (x ∷ all) [] m e has = absurd cc
  is_spelled lexed (x ∷ all) (t ∷ ts) m e has =
      let same : x.kind ≡ t.kind = cc in
      let rest : map (λ (it : Lexeme). it.kind) all ≡ map (λ (token : Token). token.kind) ts = cc in
      by t.kind (subst (λ (kind : TokenKind). (if is_named kind m then true else has_name all m) ≡ true) same has)
      (λ has. is_spelled lexed all ts m rest has)
    where
      name_by : (b : Bool) → (if b then true else has_name all m) ≡ true →
          (has_name all m ≡ true → (text : List ℕ) × (spelled_among lexed ts m ≡ Some text)) →
          (text : List ℕ) × ((if b then Some (bytes_of lexed t) else spelled_among lexed ts m) ≡ Some text)
      name_by true has next = (bytes_of lexed t, refl)
      name_by false has next = next has

      by : (kind : TokenKind) → (if is_named kind m then true else has_name all m) ≡ true →
          (has_name all m ≡ true → (text : List ℕ) × (spelled_among lexed ts m ≡ Some text)) →
          (text : List ℕ)
          × ((if is_name (name_of_kind kind) m then Some (bytes_of lexed t) else spelled_among lexed ts m) ≡ Some text)
      by (Name n) has next = name_by (nat_eq n m) has next
      by (Keyword word) has next = next has
      by Number has next = next has
      by Char has next = next has
      by Text has next = next has
      by (Punct sign) has next = next has
      by (Qual l el) has next = next has
      by Index has next = next has
      by End has next = next has

  pub spelled_names_differ : SpelledNamesDiffer
  spelled_names_differ [] lexed all h it are m n has_m has_n e = e
  spelled_names_differ (first ∷ others) lexed all h it are m n has_m has_n e =
      let one = is_spelled lexed all lexed.tokens m are has_m in
      let other = is_spelled lexed all lexed.tokens n are has_n in
      let same : key_among (first ∷ others) one.0 m ≡ key_among (first ∷ others) other.0 n =
      sym (ap (λ (o : Option (List ℕ)). key_of_some (first ∷ others) o m) one.1)
      ∙ (e ∙ ap (λ (o : Option (List ℕ)). key_of_some (first ∷ others) o n) other.1) in
      by one.0 other.0 one.1 other.1 (among (first ∷ others) one.0 other.0 m n h same)
    where
      by : (s t : List ℕ) → spelled lexed m ≡ Some s → spelled lexed n ≡ Some t → (s ≡ t) ⊎ (m ≡ n) → m ≡ n
      by s t one other (inr same) = same
      by s t one other (inl same) =
          (both_ways lexed m n s t (law it.0 lexed it.1) (spelled_stands lexed lexed.tokens m s (all_are lexed) one)
          (spelled_stands lexed lexed.tokens n t (all_are lexed) other)).1 same
