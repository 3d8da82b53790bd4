-- The tokens of a unit as its readers see them.
use Rattle.std.specs.Prelude.{ℕ, suc, Bool, true, false, List, [], ◌∷◌}
use Rattle.c_lexer.specs.declared.token.Token.{Token}
use Rattle.c_lexer.specs.Tokens.{Lexed}
use Rattle.c_words.specs.declared.kinds.Keyword.TheVariants as keywords
use Rattle.c_words.specs.declared.kinds.TokenKind.{TokenKind}
use Rattle.c_words.specs.declared.kinds.TokenKind.TheVariants as kinds
use Rattle.c_reading.specs.Tokens.{is_open_paren}
use Rattle.c_tree.specs.declared.lexeme.Lexeme.{Lexeme}

-- whether a parenthesis is the first of these tokens
abbrev pub opens : List Token → Bool
opens [] = false
opens (t ∷ ts) = is_open_paren t.kind

-- whether a token is `_Atomic`
abbrev pub is_atomic : TokenKind → Bool
is_atomic (kinds.Keyword keywords.Atomic) = true
is_atomic kind = false

-- the kind of a token as the readers see it, by whether `(` is right behind: `_Atomic` right before `(`, which begins
-- the name of a type in specifiers, is a word of its own
abbrev pub read_before : TokenKind → Bool → TokenKind
read_before (kinds.Keyword keywords.Atomic) true = kinds.Keyword keywords.AtomicType
read_before kind before = kind

-- tokens numbered from a number on
abbrev pub numbered : ℕ → List Token → List Lexeme
numbered n [] = []
numbered n (t ∷ ts) = record { kind = read_before t.kind (opens ts); at = n } ∷ numbered (suc n) ts

-- the tokens of a unit as its readers see them, with their numbers
abbrev pub lexemes_of : Lexed → List Lexeme
lexemes_of lexed = numbered 0 lexed.tokens
