-- What a fault says: its token, its code, and the kinds of the tokens that it is one of.
use Rattle.std.specs.Prelude.{◌≡◌, ℕ, ◌+◌, Bool, true, false, List, [], ◌∷◌, take}
use Rattle.c_words.specs.declared.kinds.TokenKind.{TokenKind}
use Rattle.c_lexer.specs.declared.token.Token.{Token}
use Rattle.c_lexer.specs.Tokens.{Lexed}
use Rattle.c_tree.specs.Unit.{Item}
use Rattle.c_units.specs.Units.{IsWellFormed}
use Rattle.c_units.specs.FirstBad.{IsFirstBad}
use Rattle.refusal_rules.specs.Allowed.{syntax, too_deep, BeginsUnitOfAnyHeight, IsAllowed}
use Rattle.c_reading.specs.declared.kinds.FaultKind.TheVariants.{Unexpected, TooDeep, Redeclared, BadMix, BadTarget}
use Rattle.reader_base.specs.declared.fault.ReadError.{ReadError}
use Rattle.reader_base.specs.declared.fault.ReadError.TheVariants as errors
use Rattle.c_parser.specs.Parsing.{opens, read_before, lexemes_of}

-- the kinds of tokens as the readers see them
abbrev pub kinds_in : List Token → List TokenKind
kinds_in [] = []
kinds_in (t ∷ ts) = read_before t.kind (opens ts) ∷ kinds_in ts

-- the kinds of the tokens of a unit as its readers see them
abbrev pub kinds_of : Lexed → List TokenKind
kinds_of lexed = kinds_in lexed.tokens

-- the token that is refused; want of memory names none
abbrev pub token_of : ReadError → ℕ
token_of (errors.Fault rule token) = token
token_of errors.NoMemory = 0

-- the height alone is what is wrong
abbrev pub is_for_height : ReadError → Bool
is_for_height (errors.Fault Unexpected token) = false
is_for_height (errors.Fault TooDeep token) = true
is_for_height (errors.Fault Redeclared token) = false
is_for_height (errors.Fault BadMix token) = false
is_for_height (errors.Fault BadTarget token) = false
is_for_height errors.NoMemory = false

-- Why these tokens are refused: they are those of no well-formed unit, the token is the first up to which none begins
-- so, and the code is one that may be answered there. Where the fault is not the height, no unit of any height begins
-- so either.
pub record IsUnitRefusal (tokens : Lexed) (fault : ReadError) : Type 0 where
  pub none : (items : List Item) → IsWellFormed tokens.wide (lexemes_of tokens) items → ⊥
  pub first : IsFirstBad tokens.wide (kinds_of tokens) (token_of fault)
  pub height : is_for_height fault ≡ false
      → ¬ BeginsUnitOfAnyHeight tokens.wide (take (token_of fault + 1) (kinds_of tokens))
  pub allowed : (token : ℕ) → fault ≡ errors.Fault Unexpected token → IsAllowed tokens.wide (kinds_of tokens) token syntax
  pub deep : (token : ℕ) → fault ≡ errors.Fault TooDeep token → IsAllowed tokens.wide (kinds_of tokens) token too_deep
