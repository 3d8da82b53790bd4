-- The names of a unit by their numbers: two tokens have one number exactly where the same bytes spell them.
use Rattle.std.specs.Prelude.{◌≡◌, ℕ, Option, Some, option_map, slice_get}
use Rattle.c_words.specs.declared.kinds.TokenKind.{TokenKind}
use Rattle.c_words.specs.declared.kinds.TokenKind.TheVariants.{Name}
use Rattle.c_lexer.specs.declared.token.Token.{Token}
use Rattle.c_lexer.specs.Reading.{Meanings}
use Rattle.c_lexer.specs.Tokens.{Lexed, IsSpelled, text_of}

-- the kind of a token, if there is one of this number
abbrev pub kind_of : Lexed → ℕ → Option TokenKind
kind_of lexed n = option_map (λ (token : Token). token.kind) (slice_get lexed.tokens n)

-- two tokens are names, with these numbers
pub record AreNames (lexed : Lexed) (one other a b : ℕ) : Type 0 where
  pub one_is : kind_of lexed one ≡ Some (Name a)
  pub other_is : kind_of lexed other ≡ Some (Name b)

-- two names of the tokens have one number exactly where the same bytes spell them
abbrev pub AreNumbered : Lexed → Type 0
AreNumbered lexed =
    (one other a b : ℕ) → AreNames lexed one other a b →
    (a ≡ b → text_of lexed one ≡ text_of lexed other) × (text_of lexed one ≡ text_of lexed other → a ≡ b)

-- the names of all tokens that bytes spell are numbered so
abbrev pub NamesAreNumbered : Type 0
NamesAreNumbered = (words : Meanings) (lexed : Lexed) → IsSpelled words lexed → AreNumbered lexed
