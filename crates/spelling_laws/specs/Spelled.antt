-- The numbers of names of units that were read from bytes.
use Rattle.std.specs.Prelude.{◌≡◌, All, List, map}
use Rattle.c_lexer.specs.declared.token.Token.{Token}
use Rattle.c_lexer.specs.Reading.{Meanings}
use Rattle.c_lexer.specs.Tokens.{Lexed, IsSpelled}
use Rattle.c_tree.specs.declared.lexeme.Lexeme.{Lexeme}
use Rattle.c_types.specs.SourceSpelling.Tokens.{spelling_behind}
use Rattle.first_laws.specs.Firsts.{NamesDiffer}

-- its bytes spell its tokens
abbrev pub IsLexed : Lexed → Type 0
IsLexed lexed = (words : Meanings) × IsSpelled words lexed

-- these are the tokens of a unit, as trees see them
abbrev pub AreLexemesOf : List Lexeme → Lexed → Type 0
AreLexemesOf all lexed =
    map (λ (it : Lexeme). it.kind) all ≡ map (λ (token : Token). token.kind) lexed.tokens

-- different names of a unit behind others have different numbers
abbrev pub SpelledNamesDiffer : Type 0
SpelledNamesDiffer =
    (earlier : List Lexed) (lexed : Lexed) (all : List Lexeme) → All IsLexed earlier → IsLexed lexed →
    AreLexemesOf all lexed → NamesDiffer (spelling_behind earlier lexed) all
