-- What the reader of units refuses is refused with the first bad token, and with a code that is allowed where that is
-- proved.
use Rattle.std.proofs.Common.{◌≡◌, ◌≢◌, ℕ, suc, ◌+◌, Bool, false, List, [], ◌∷◌, ◌++◌, take, Ok, Err, refl, ◌∙◌, sym, ap, subst}
use Rattle.c_words.specs.declared.kinds.Keyword.TheVariants as keywords
use Rattle.c_words.specs.declared.kinds.TokenKind.{TokenKind}
use Rattle.c_words.specs.declared.kinds.TokenKind.TheVariants as kinds
use Rattle.c_lexer.specs.declared.token.Token.{Token}
use Rattle.c_lexer.specs.Tokens as tokens_end
use Rattle.c_tree.specs.declared.lexeme.Lexeme.{Lexeme}
use Rattle.c_tree.specs.Unit.{Item}
use Rattle.c_units.specs.Units as units
use Rattle.c_units.specs.FirstBad.{IsFirstBad}
use Rattle.refusal_rules.specs.Allowed.{syntax, too_deep, BeginsUnitOfAnyHeight, IsAllowed}
use Rattle.unit_places.specs.Laws as places
use Rattle.depth_laws.specs.Laws.{OnlyTheHeight}
use Rattle.c_reading.specs.declared.kinds.FaultKind.{FaultKind}
use Rattle.c_reading.specs.declared.kinds.FaultKind.TheVariants as reading
use Rattle.c_reading.specs.Knot.{unit_at}
use Rattle.c_reading.specs.Reading.{Read}
use Rattle.reader_base.specs.declared.fault.ReadError.{ReadError}
use Rattle.reader_base.specs.declared.fault.ReadError.TheVariants as errors
use Rattle.reader_base.specs.Gives.{Fails}
use Rattle.c_parser.specs.Parsing.{numbered, opens, read_before}
use Rattle.c_parser.specs.Refusing.{kinds_in, token_of, is_for_height}

-- the tokens with their numbers are those of their kinds
numbered_kinds : (n : ℕ) (tokens : List Token) → numbered n tokens ≡ units.numbered_from n (kinds_in tokens)
numbered_kinds n [] = refl
numbered_kinds n (t ∷ tokens) =
    ap (λ (rest : List Lexeme). record { kind = read_before t.kind (opens tokens); at = n } ∷ rest)
    (numbered_kinds (suc n) tokens)

-- before no parenthesis a token is read as it is
as_it_is : (kind : TokenKind) → read_before kind false ≡ kind
as_it_is (kinds.Keyword keywords.Atomic) = refl
as_it_is kind = refl

-- the last kind stands last, whatever those before it are read as
kinds_front : (front : List Token) (last : Token)
    → (ks : List TokenKind) × (kinds_in (front ++ last ∷ []) ≡ ks ++ read_before last.kind false ∷ [])
kinds_front [] last = ([], refl)
kinds_front (t ∷ front) last =
    let rest = kinds_front front last in
    let first : TokenKind = read_before t.kind (opens (front ++ last ∷ [])) in
    (first ∷ rest.0, ap (λ (kinds : List TokenKind). first ∷ kinds) rest.1)

-- tokens that end in an end mark still do once their kinds are read
kinds_ended : (tokens : List Token) → tokens_end.IsEnded tokens → places.IsEnded (kinds_in tokens)
kinds_ended tokens ended =
    let found = kinds_front ended.0 ended.1 in (
      found.0,
      ap kinds_in ended.2 ∙ found.1 ∙ ap (λ (kind : TokenKind). found.0 ++ kind ∷ []) (as_it_is ended.1.kind ∙ ended.3),
    )

-- what a fault stands for
pub record IsRefused (wide : Bool) (tokens : List Token) (fault : ReadError) : Type 0 where
  pub named : FaultKind
  pub token : ℕ
  pub is : fault ≡ errors.Fault named token
  pub refused : unit_at wide (numbered 0 tokens) ≡ Err (named, token)

-- an error that is not want of memory is a rule that is broken at a token
pub fault_in : (error : ReadError) → error ≢ errors.NoMemory
    → (rule : FaultKind) × (token : ℕ) × (error ≡ errors.Fault rule token)
fault_in (errors.Fault rule token) some = (rule, token, refl)
fault_in errors.NoMemory some = absurd (some refl)

-- a fault that is none for the height does not break the rule of the height
not_deep : (rule : FaultKind) (token : ℕ) → is_for_height (errors.Fault rule token) ≡ false → ¬ (rule ≡ reading.TooDeep)
not_deep reading.Unexpected token h e = absurd cc
not_deep reading.TooDeep token h e = absurd cc
not_deep reading.Redeclared token h e = absurd cc
not_deep reading.BadMix token h e = absurd cc
not_deep reading.BadTarget token h e = absurd cc

-- faults that are one break one rule, at one token
parts_are : (rule other : FaultKind) (token at : ℕ) → errors.Fault rule token ≡ errors.Fault other at
    → (other ≡ rule) × (token ≡ at)
parts_are rule other token at e = (cc, cc)

module _ (wide : Bool) (tokens : List Token) (ended : tokens_end.IsEnded tokens) where
  refuses : (named : FaultKind) (token : ℕ) → unit_at wide (numbered 0 tokens) ≡ Err (named, token)
      → places.Refuses wide (kinds_in tokens) named token
  refuses named token e = ap (unit_at wide) (sym (numbered_kinds 0 tokens)) ∙ e

  pub first_of : places.PlaceIsFirst → (fault : ReadError) → IsRefused wide tokens fault
      → IsFirstBad wide (kinds_in tokens) (token_of fault)
  first_of law fault r =
      subst (IsFirstBad wide (kinds_in tokens)) (sym (ap token_of r.is))
      (law wide (kinds_in tokens) r.named r.token (kinds_ended tokens ended) (refuses r.named r.token r.refused))

  pub height_of : places.HeightAlone → (fault : ReadError) → IsRefused wide tokens fault → is_for_height fault ≡ false
      → ¬ BeginsUnitOfAnyHeight wide (take (token_of fault + 1) (kinds_in tokens))
  height_of law fault r low =
      subst (λ (token : ℕ). ¬ BeginsUnitOfAnyHeight wide (take (token + 1) (kinds_in tokens)))
      (sym (ap token_of r.is))
      (law wide (kinds_in tokens) r.named r.token (kinds_ended tokens ended) (refuses r.named r.token r.refused)
      (not_deep r.named r.token (ap is_for_height (sym r.is) ∙ low)))

  pub allowed_of : places.SyntaxIsAllowed → (token : ℕ) → IsRefused wide tokens (errors.Fault reading.Unexpected token)
      → IsAllowed wide (kinds_in tokens) token syntax
  allowed_of law token r =
      let s = parts_are reading.Unexpected r.named token r.token r.is in
      subst (λ (token : ℕ). IsAllowed wide (kinds_in tokens) token syntax) (sym s.1)
      (law wide (kinds_in tokens) r.token (kinds_ended tokens ended) (refuses reading.Unexpected r.token
      (subst (λ (named : FaultKind). unit_at wide (numbered 0 tokens) ≡ Err (named, r.token)) s.0 r.refused)))

  pub deep_of : OnlyTheHeight → (token : ℕ) → IsRefused wide tokens (errors.Fault reading.TooDeep token)
      → IsAllowed wide (kinds_in tokens) token too_deep
  deep_of law token r =
      let d = parts_are reading.TooDeep r.named token r.token r.is in
      subst (λ (token : ℕ). IsAllowed wide (kinds_in tokens) token too_deep) (sym d.1)
      (law wide (kinds_in tokens) r.token (kinds_ended tokens ended) (refuses reading.TooDeep r.token
      (subst (λ (named : FaultKind). unit_at wide (numbered 0 tokens) ≡ Err (named, r.token)) d.0 r.refused)))

-- the reader's error, as a refusal
pub refusal_of : (read : Read (List Item)) (error : ReadError) (named : FaultKind) (token : ℕ)
    → error ≡ errors.Fault named token → Fails error read → read ≡ Err (named, token)
refusal_of read error named token is fails = let At : ReadError → Type 0 = λ e. Fails e read in subst At is fails
