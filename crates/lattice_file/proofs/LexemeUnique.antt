-- A lexeme and what stands behind it are determined by the bytes.
use Rattle.std.proofs.Common.{◌≡◌, ℕ, Bool, true, false, ◌||◌, nat_eq, List, [], ◌∷◌, ◌++◌, refl, sym, ◌∙◌, ap, subst, ◌⊎◌, inl, inr, if◌then◌else◌}
use Rattle.std.specs.List.{list_all}
use Rattle.std.proofs.lemmas.Bool.{eqb-true, or_cases}
use Rattle.qual_base.proofs.Tests.{and_first}
use Rattle.lattice_file.specs.Text.{Gap, is_blank, stands_in_words, lengthens, stands_in_text}
use Rattle.lattice_file.specs.Steps.{Lexeme, WordLexeme, SignLexeme, TextLexeme, Spells}
use Rattle.lattice_file.proofs.GapUnique.{head_same, tail_same, row_one, GapView, ViewNothing, ViewBlank, ViewComment, ViewLine, gap_view, IsStuck, gap_one}

pub data Kind : Type 0 where
  InGap : Kind
  InWord : Kind
  AtQuote : Kind
  AtSign : Kind

-- what a byte begins
abbrev pub kind_of : ℕ → Kind
kind_of b =
    if is_blank b || nat_eq b 47 then InGap else if stands_in_words b then InWord else if nat_eq b 34
    then AtQuote else AtSign

-- what the first byte of a lexeme begins, by its form
abbrev pub kind_of_lexeme : Lexeme → Kind
kind_of_lexeme (WordLexeme word) = InWord
kind_of_lexeme (SignLexeme sign) = AtSign
kind_of_lexeme TextLexeme = AtQuote

-- a word has one byte at least, each of which stands in words; a sign begins nothing else
abbrev pub IsProper : Lexeme → Type 0
IsProper (WordLexeme word) = (b : ℕ) × (more : List ℕ) × (word ≡ b ∷ more) × (list_all stands_in_words word ≡ true)
IsProper (SignLexeme sign) = kind_of sign ≡ AtSign
IsProper TextLexeme = Unit {0}

-- a byte with which a gap begins does not stand in words
gap_byte : (b : ℕ) → (is_blank b || nat_eq b 47) ≡ true → stands_in_words b ≡ true → ⊥
gap_byte b gap word = by_last (or_cases (is_blank b) (nat_eq b 47) gap)
  where
    at : (c : ℕ) → nat_eq b c ≡ true → stands_in_words c ≡ true
    at c e = rw (← eqb-true b c e) word

    by_third : (nat_eq b 32 || nat_eq b 9) ≡ true → ⊥
    by_third h = elim (or_cases (nat_eq b 32) (nat_eq b 9) h) [
      | inl e ↦ (let clash : stands_in_words 32 ≡ true = at 32 e in absurd cc)
      | inr e ↦ (let clash : stands_in_words 9 ≡ true = at 9 e in absurd cc)
    ]

    by_second : (nat_eq b 32 || nat_eq b 9 || nat_eq b 13) ≡ true → ⊥
    by_second h =
        elim (or_cases (nat_eq b 32 || nat_eq b 9) (nat_eq b 13) h)
        [ inl e ↦ by_third e | inr e ↦ (let clash : stands_in_words 13 ≡ true = at 13 e in absurd cc) ]

    by_first : is_blank b ≡ true → ⊥
    by_first h =
        elim (or_cases (nat_eq b 32 || nat_eq b 9 || nat_eq b 13) (nat_eq b 10) h)
        [ inl e ↦ by_second e | inr e ↦ (let clash : stands_in_words 10 ≡ true = at 10 e in absurd cc) ]

    by_last : (is_blank b ≡ true) ⊎ (nat_eq b 47 ≡ true) → ⊥
    by_last (inl e) = by_first e
    by_last (inr e) = let clash : stands_in_words 47 ≡ true = at 47 e in absurd cc

-- a byte that stands in words begins a word
pub word_kind : (b : ℕ) → stands_in_words b ≡ true → kind_of b ≡ InWord
word_kind b word = by (is_blank b || nat_eq b 47) refl
  where
    by : (c : Bool) → (is_blank b || nat_eq b 47) ≡ c → kind_of b ≡ InWord
    by true e = absurd (gap_byte b e word)
    by false e = rw (e, word) refl

blank_kind : (b : ℕ) → is_blank b ≡ true → kind_of b ≡ InGap
blank_kind b e = rw e refl

-- a byte that begins no gap
pub stuck_at : (b : ℕ) (more : List ℕ) (kind : Kind) → kind_of b ≡ kind → (InGap ≡ kind → ⊥) → IsStuck (b ∷ more)
stuck_at b more kind e other rest gap = go (gap_view (b ∷ more) rest gap)
  where
    slash : b ≡ 47 → ⊥
    slash s = other (subst (λ (b : ℕ). kind_of b ≡ kind) s e)

    go : GapView (b ∷ more) rest → rest ≡ b ∷ more
    go (ViewNothing f) = f
    go (ViewBlank c behind f is on) =
        let same : c ≡ b = sym (head_same b c more behind f) in
        let here : is_blank b ≡ true = rw same at is in
        absurd (other (sym (blank_kind b here) ∙ e))
    go (ViewComment text behind f inside on) = absurd (slash (head_same b 47 more (42 ∷ text ++ 42 ∷ 47 ∷ behind) f))
    go (ViewLine text behind f inside ends on) = absurd (slash (head_same b 47 more (47 ∷ text ++ behind) f))

-- at the end of the bytes no gap goes on
pub stuck_end : IsStuck []
stuck_end rest gap = go (gap_view [] rest gap)
  where
    go : GapView [] rest → rest ≡ []
    go (ViewNothing f) = f
    go (ViewBlank c behind f is on) = absurd cc
    go (ViewComment text behind f inside on) = absurd cc
    go (ViewLine text behind f inside ends on) = absurd cc

-- the first byte of a lexeme
pub record Begins (lexeme : Lexeme) (bytes : List ℕ) : Type 0 where
  pub byte : ℕ
  pub more : List ℕ
  pub is : bytes ≡ byte ∷ more
  pub kind : kind_of byte ≡ kind_of_lexeme lexeme

-- the bytes of a proper lexeme begin with a byte of its kind
pub begins : (lexeme : Lexeme) (bytes rest : List ℕ) → IsProper lexeme → Spells lexeme bytes rest → Begins lexeme bytes
begins (WordLexeme word) bytes rest (b, more, is, all) spells =
    let inside : list_all stands_in_words (b ∷ more) ≡ true =
    subst (λ (w : List ℕ). list_all stands_in_words w ≡ true) is all in
    record {
      byte = b;
      more = more ++ rest;
      is = spells.0 ∙ ap (λ (w : List ℕ). w ++ rest) is;
      kind = word_kind b (and_first (stands_in_words b) (list_all stands_in_words more) inside);
    }
begins (SignLexeme sign) bytes rest proper spells = record { byte = sign; more = rest; is = spells; kind = proper }
begins TextLexeme bytes rest proper spells =
    record { byte = 34; more = spells.0 ++ 34 ∷ rest; is = spells.1; kind = refl }

-- no lexeme is of the kind of gaps
pub not_gap : (lexeme : Lexeme) → InGap ≡ kind_of_lexeme lexeme → ⊥
not_gap (WordLexeme word) e = absurd cc
not_gap (SignLexeme sign) e = absurd cc
not_gap TextLexeme e = absurd cc

pub lexeme_stuck : (lexeme : Lexeme) (bytes : List ℕ) → Begins lexeme bytes → IsStuck bytes
lexeme_stuck lexeme bytes b = rw b.is (stuck_at b.byte b.more (kind_of_lexeme lexeme) b.kind (not_gap lexeme))

pub kinds_same : (x y : Lexeme) (bytes : List ℕ) → Begins x bytes → Begins y bytes → kind_of_lexeme x ≡ kind_of_lexeme y
kinds_same x y bytes a b = sym a.kind ∙ ap kind_of (head_same a.byte b.byte a.more b.more (sym a.is ∙ b.is)) ∙ b.kind

pub word_stop : (b : ℕ) (bytes : List ℕ) → lengthens (b ∷ bytes) ≡ false → stands_in_words b ≡ true → ⊥
word_stop b bytes h s = let clash : false ≡ true = sym h ∙ s in absurd cc

-- a quote does not stand in a text
text_stop : (b : ℕ) (bytes : List ℕ) → ((rest : List ℕ) × (b ∷ bytes ≡ 34 ∷ rest)) → stands_in_text b ≡ true → ⊥
text_stop b bytes h s =
    let there : stands_in_text 34 ≡ true =
    subst (λ (b : ℕ). stands_in_text b ≡ true) (head_same b 34 bytes h.0 h.1) s in
    absurd cc

-- two proper lexemes of one kind that the same bytes spell are the same, with the same rest
pub spells_one : (x y : Lexeme) (bytes a b : List ℕ) → IsProper x → IsProper y → kind_of_lexeme x ≡ kind_of_lexeme y
    → Spells x bytes a → Spells y bytes b → (x ≡ y) × (a ≡ b)
spells_one (WordLexeme w) (WordLexeme v) bytes a b px py k sx sy =
    let same = row_one stands_in_words (λ bytes. lengthens bytes ≡ false) word_stop w v a b px.3 py.3 sx.1 sy.1
    (sym sx.0 ∙ sy.0) in
    (ap (λ (w : List ℕ). WordLexeme w) same.0, same.1)
spells_one (SignLexeme s) (SignLexeme t) bytes a b px py k sx sy =
    (ap (λ (s : ℕ). SignLexeme s) (head_same s t a b (sym sx ∙ sy)), tail_same s t a b (sym sx ∙ sy))
spells_one TextLexeme TextLexeme bytes a b px py k sx sy =
    let same = row_one stands_in_text (λ bytes. (rest : List ℕ) × (bytes ≡ 34 ∷ rest)) text_stop sx.0 sy.0 (34 ∷ a)
    (34 ∷ b) sx.2 sy.2 (a, refl) (b, refl)
    (tail_same 34 34 (sx.0 ++ 34 ∷ a) (sy.0 ++ 34 ∷ b) (sym sx.1 ∙ sy.1)) in
    (refl, tail_same 34 34 a b same.1)
spells_one (WordLexeme w) (SignLexeme t) bytes a b px py k sx sy = absurd cc
spells_one (WordLexeme w) TextLexeme bytes a b px py k sx sy = absurd cc
spells_one (SignLexeme s) (WordLexeme w) bytes a b px py k sx sy = absurd cc
spells_one (SignLexeme s) TextLexeme bytes a b px py k sx sy = absurd cc
spells_one TextLexeme (WordLexeme w) bytes a b px py k sx sy = absurd cc
spells_one TextLexeme (SignLexeme t) bytes a b px py k sx sy = absurd cc

-- a lexeme behind a gap
pub record Takes (lexeme : Lexeme) (bytes rest : List ℕ) : Type 0 where
  pub behind : List ℕ
  pub gap : Gap bytes behind
  pub spells : Spells lexeme behind rest

-- two proper lexemes behind a gap in the same bytes are the same, with the same rest
pub takes_one : (x y : Lexeme) (bytes a b : List ℕ) → IsProper x → IsProper y → Takes x bytes a → Takes y bytes b
    → (x ≡ y) × (a ≡ b)
takes_one x y bytes a b px py tx ty =
    let bx = begins x tx.behind a px tx.spells in
    let by = begins y ty.behind b py ty.spells in
    let same : ty.behind ≡ tx.behind =
    gap_one bytes ty.behind tx.behind ty.gap tx.gap (lexeme_stuck y ty.behind by) (lexeme_stuck x tx.behind bx) in
    let here : Spells y tx.behind b = subst (λ (bytes : List ℕ). Spells y bytes b) same ty.spells in
    let there : Begins y tx.behind = subst (λ (bytes : List ℕ). Begins y bytes) same by in
    spells_one x y tx.behind a b px py (kinds_same x y tx.behind bx there) tx.spells here
