-- Names of one number are spelled alike, and names that are spelled alike have one number.
use Rattle.std.proofs.Common.{Bool, ◌≡◌, ℕ, zero, suc, ◌+◌, ◌-◌, ◌≤◌, true, false, List, [], ◌∷◌, ◌++◌, length, take, drop, get_or, refl, sym, ◌∙◌, ap, subst, arith, Option, Some, None, is_some, inl, inr, ◌⊎◌, unwrap_or, if◌then◌else◌, bytes_eq, position}
use Rattle.std.specs.Prelude.{slice_get, slice_range, option_map}
use Rattle.std.specs.List.{position_or_len}
use Rattle.std.proofs.lemmas.List.Quantifiers.{position-Some}
use Rattle.std.proofs.lemmas.List.Sums.{fails_before_first}
use Rattle.std.proofs.lemmas.Option.{slice_get_read, slice_get_within, get_or_from_slice_get, slice_get-map}
use Rattle.std.proofs.lemmas.Grind.{common_steps}
use Rattle.std.proofs.lemmas.Slice.Eq.{bytes_eq-Decides}
use Rattle.qual_base.proofs.Lists.{push_left, push_last}
use Rattle.c_words.specs.declared.kinds.TokenKind.{TokenKind}
use Rattle.c_words.specs.declared.kinds.TokenKind.TheVariants.{Name, Keyword, Number, Char, Text, Punct, Qual, Index, End}
use Rattle.c_lexer.specs.declared.token.Token.{Token}
use Rattle.c_lexer.specs.Names.{name_number, with_name}
use Rattle.c_lexer.specs.Reading.{Meanings, Front, IsKind, names_behind, Reaches, Spells}
use Rattle.c_lexer.specs.Reading.Reaches.{begins, skips, takes}
use Rattle.c_lexer.specs.Tokens.{Lexed, IsSpelled, start_of, end_of, text_of}
use Rattle.c_lexer.specs.Numbering.{kind_of, AreNumbered}

-- a name token is spelled as the name of its number
abbrev pub AreKnown : List ℕ → List Token → List (List ℕ) → Type 0
AreKnown bytes tokens names =
    (k : ℕ) (t : Token) (id : ℕ) → slice_get tokens k ≡ Some t → t.kind ≡ Name id
    → slice_get names id ≡ Some (slice_range bytes t.start t.end)

-- no name has two numbers
abbrev pub AreApart : List (List ℕ) → Type 0
AreApart names = (i j : ℕ) (name : List ℕ) → slice_get names i ≡ Some name → slice_get names j ≡ Some name → i ≡ j

-- an element of a list with one more is one of the list, or the one more behind it
pushed : {A : Type 0} (xs : List A) (y x : A) (k : ℕ) → slice_get (xs ++ y ∷ []) k ≡ Some x
    → (slice_get xs k ≡ Some x) ⊎ ((k ≡ length xs) × (y ≡ x))
pushed [] y x zero e = inr (refl, cc)
pushed [] y x (suc k) e = absurd cc
pushed (z ∷ xs) y x zero e = inl e
pushed (z ∷ xs) y x (suc k) e = by_case (pushed xs y x k e)
  where
    by_case : (slice_get xs k ≡ Some x) ⊎ ((k ≡ length xs) × (y ≡ x))
        → (slice_get (z ∷ xs) (suc k) ≡ Some x) ⊎ ((suc k ≡ suc (length xs)) × (y ≡ x))
    by_case (inl old) = inl old
    by_case (inr new) = inr (ap suc new.0, new.1)

-- a name that stands among the names is the one of its number
found_is : (names : List (List ℕ)) (name : List ℕ) (i : ℕ) → position (bytes_eq name) names ≡ Some i
    → slice_get names i ≡ Some name
found_is names name i e =
    let f = position-Some (bytes_eq name) names i name e in
    slice_get_read names (length names) i name refl f.0 ((bytes_eq-Decides name (get_or names i name)).0 f.1)

-- where a name has no place, it is none of the names
missing_is : (names : List (List ℕ)) (name : List ℕ) (k : ℕ) → position (bytes_eq name) names ≡ None
    → slice_get names k ≡ Some name → ⊥
missing_is names name k none there =
    let within = slice_get_within names k name there in
    let same : get_or names k name ≡ name = get_or_from_slice_get names k name name there in
    let long : length names ≤ position_or_len (bytes_eq name) names = grind (arith, common_steps) in
    let fails : bytes_eq name (get_or names k name) ≡ false =
    fails_before_first (bytes_eq name) names k name (omega arith) in
    let passes : bytes_eq name (get_or names k name) ≡ true =
    (bytes_eq-Decides name (get_or names k name)).1 (sym same) in
    absurd (let e : true ≡ false = sym passes ∙ fails in cc)

-- what is known of the names behind a name's token
record NameKept (names after : List (List ℕ)) (name : List ℕ) (id : ℕ) : Type 0 where
  there : slice_get after id ≡ Some name
  stay : (k : ℕ) (n : List ℕ) → slice_get names k ≡ Some n → slice_get after k ≡ Some n
  apart : AreApart after

-- behind a name's token its number has it, the names before stay, and no two are the same
name_kept : (names : List (List ℕ)) (name : List ℕ) → AreApart names
    → NameKept names (with_name names name) name (name_number names name)
name_kept names name apart = by_place (position (bytes_eq name) names) refl
  where
    push_apart : position (bytes_eq name) names ≡ None → AreApart (names ++ name ∷ [])
    push_apart none i j n at_i at_j = by_cases (pushed names name n i at_i) (pushed names name n j at_j)
      where
        by_cases : (slice_get names i ≡ Some n) ⊎ ((i ≡ length names) × (name ≡ n))
            → (slice_get names j ≡ Some n) ⊎ ((j ≡ length names) × (name ≡ n)) → i ≡ j
        by_cases (inl a) (inl b) = apart i j n a b
        by_cases (inl a) (inr b) = absurd (missing_is names name i none (a ∙ ap Some (sym b.1)))
        by_cases (inr a) (inl b) = absurd (missing_is names name j none (b ∙ ap Some (sym a.1)))
        by_cases (inr a) (inr b) = a.0 ∙ sym b.0

    by_place : (o : Option ℕ) → position (bytes_eq name) names ≡ o
        → NameKept names (if is_some o then names else names ++ name ∷ []) name (unwrap_or o (length names))
    by_place (Some i) at = record { there = found_is names name i at; stay = λ k n e. e; apart = apart }
    by_place None none =
        record { there = push_last names name; stay = λ k n e. push_left names name n k e; apart = push_apart none }

-- what is known of a front
record IsNumbered (bytes : List ℕ) (front : Front) : Type 0 where
  known : AreKnown bytes front.tokens front.names
  apart : AreApart front.names

-- one more token, where the names stay and a name's token has the number of its spelling
known_more : (bytes : List ℕ) (tokens : List Token) (t : Token) (names after : List (List ℕ))
    → AreKnown bytes tokens names →
    ((k : ℕ) (n : List ℕ) → slice_get names k ≡ Some n → slice_get after k ≡ Some n) →
    ((id : ℕ) → t.kind ≡ Name id → slice_get after id ≡ Some (slice_range bytes t.start t.end))
    → AreKnown bytes (tokens ++ t ∷ []) after
known_more bytes tokens t names after known stay new k s id there is = by_case (pushed tokens t s k there)
  where
    by_case : (slice_get tokens k ≡ Some s) ⊎ ((k ≡ length tokens) × (t ≡ s))
        → slice_get after id ≡ Some (slice_range bytes s.start s.end)
    by_case (inl old) = stay id (slice_range bytes s.start s.end) (known k s id old is)
    by_case (inr last) =
        let P : Token → Type 0 = λ s. s.kind ≡ Name id → slice_get after id ≡ Some (slice_range bytes s.start s.end) in
        subst P last.1 (new id) is

-- a token that is no name leaves the names
other_more : (bytes : List ℕ) (tokens : List Token) (t : Token) (names : List (List ℕ)) → AreKnown bytes tokens names
    → AreApart names → ((id : ℕ) → t.kind ≡ Name id → ⊥) →
    AreKnown bytes (tokens ++ t ∷ []) names × AreApart names
other_more bytes tokens t names known apart other =
    (known_more bytes tokens t names names known (λ k n e. e) (λ id e. absurd (other id e)), apart)

-- behind any token the names are known by their numbers, and no two are the same
behind_token : (unit : ℕ) (wide : Bool) (words : Meanings) (bytes : List ℕ) (tokens : List Token)
    (names : List (List ℕ)) (at n : ℕ) (kind : TokenKind)
    → AreKnown bytes tokens names → AreApart names →
    IsKind unit wide words names (take n (drop at bytes)) kind →
    AreKnown bytes (tokens ++ record { kind = kind; start = at; end = at + n } ∷ [])
    (names_behind names (take n (drop at bytes)) kind) × AreApart (names_behind names (take n (drop at bytes)) kind)
behind_token unit wide words bytes tokens names at n (Name id) known apart is =
    let kept = name_kept names (take n (drop at bytes)) apart in
    let size : at + n - at ≡ n = omega arith in (
      known_more bytes tokens (record { kind = Name id; start = at; end = at + n }) names
          (with_name names (take n (drop at bytes))) known kept.stay (λ i e.
          let same : i ≡ name_number names (take n (drop at bytes)) = (let h : id ≡ i = cc in sym h ∙ is.2) in
          rw (same, size) kept.there),
      kept.apart,
    )
behind_token unit wide words bytes tokens names at n (Keyword word) known apart is =
    other_more bytes tokens (record { kind = Keyword word; start = at; end = at + n }) names known apart
    (λ id e. absurd cc)
behind_token unit wide words bytes tokens names at n Number known apart is =
    other_more bytes tokens (record { kind = Number; start = at; end = at + n }) names known apart (λ id e. absurd cc)
behind_token unit wide words bytes tokens names at n Char known apart is =
    other_more bytes tokens (record { kind = Char; start = at; end = at + n }) names known apart (λ id e. absurd cc)
behind_token unit wide words bytes tokens names at n Text known apart is =
    other_more bytes tokens (record { kind = Text; start = at; end = at + n }) names known apart (λ id e. absurd cc)
behind_token unit wide words bytes tokens names at n (Punct sign) known apart is =
    other_more bytes tokens (record { kind = Punct sign; start = at; end = at + n }) names known apart
    (λ id e. absurd cc)
behind_token unit wide words bytes tokens names at n (Qual l e) known apart is =
    other_more bytes tokens (record { kind = Qual l e; start = at; end = at + n }) names known apart (λ id h. absurd cc)
behind_token unit wide words bytes tokens names at n Index known apart is =
    other_more bytes tokens (record { kind = Index; start = at; end = at + n }) names known apart (λ id e. absurd cc)
behind_token unit wide words bytes tokens names at n End known apart is = absurd is

-- at each place that is reached the names are known by their numbers, and no two are the same
reaches_numbered : (unit : ℕ) (wide : Bool) (words : Meanings) (bytes : List ℕ) (front : Front)
    → Reaches unit wide words bytes front → IsNumbered bytes front
reaches_numbered unit wide words bytes front begins =
    record { known = λ k t id there is. absurd cc; apart = λ i j n a b. absurd cc }
reaches_numbered unit wide words bytes front (skips old new reached s) =
    let before = reaches_numbered unit wide words bytes old reached in
    record { known = rw (s.tokens, s.names) before.known; apart = rw s.names before.apart }
reaches_numbered unit wide words bytes front (takes old new reached t) =
    let before = reaches_numbered unit wide words bytes old reached in
    let behind =
    behind_token unit wide words bytes old.tokens old.names old.at t.n t.kind before.known before.apart t.is_kind in
    record { known = rw (t.tokens, t.names) behind.0; apart = rw t.names behind.1 }

-- with the end of the unit behind them
spells_known : (unit : ℕ) (wide : Bool) (words : Meanings) (bytes : List ℕ) (tokens : List Token)
    (names : List (List ℕ)) (marks : List _)
    → Spells unit wide words bytes tokens names marks →
    AreKnown bytes tokens names × AreApart names
spells_known unit wide words bytes tokens names marks s =
    let before = reaches_numbered unit wide words bytes s.front s.reached in
    let behind = other_more bytes s.front.tokens (record { kind = End; start = length bytes; end = length bytes })
    s.front.names before.known before.apart (λ id e. absurd cc) in
    (rw (s.tokens_are, s.names_are) behind.0, rw s.names_are behind.1)

-- a name's token stands among the tokens, and its text is the spelling of its number
name_text : (lexed : Lexed) (names : List (List ℕ)) (n a : ℕ) → AreKnown lexed.bytes lexed.tokens names
    → kind_of lexed n ≡ Some (Name a) → slice_get names a ≡ Some (text_of lexed n)
name_text lexed names n a known is = by_token (slice_get lexed.tokens n) refl is
  where
    by_token : (o : Option Token) → slice_get lexed.tokens n ≡ o → option_map (λ (t : Token). t.kind) o ≡ Some (Name a)
        → slice_get names a ≡ Some (text_of lexed n)
    by_token None at e = absurd cc
    by_token (Some t) at e =
        let first : start_of lexed.tokens n ≡ t.start = ap (λ o. unwrap_or o 0)
        (slice_get-map (λ (t : Token). t.start) lexed.tokens n ∙ ap (option_map (λ (t : Token). t.start)) at) in
        let last : end_of lexed.tokens n ≡ t.end = ap (λ o. unwrap_or o 0)
        (slice_get-map (λ (t : Token). t.end) lexed.tokens n ∙ ap (option_map (λ (t : Token). t.end)) at) in
        let kind : t.kind ≡ Name a = cc in
        rw (first, last) (known n t a at kind)

-- names of a spelled unit have one number just if the same bytes spell them
pub spelled-numbered : (words : Meanings) (lexed : Lexed) → IsSpelled words lexed → AreNumbered lexed
spelled-numbered words lexed spelled one other a b are =
    let k = spells_known lexed.unit lexed.wide words lexed.bytes lexed.tokens spelled.0 lexed.marks spelled.1 in
    let first = name_text lexed spelled.0 one a k.0 are.one_is in
    let second = name_text lexed spelled.0 other b k.0 are.other_is in (
      λ same. (let h : Some (text_of lexed one) ≡ Some (text_of lexed other) = sym first ∙ ap (slice_get spelled.0) same
          ∙ second in let e : text_of lexed one ≡ text_of lexed other = cc in e),
      λ same. k.1 a b (text_of lexed one) first (second ∙ ap Some (sym same)),
    )
