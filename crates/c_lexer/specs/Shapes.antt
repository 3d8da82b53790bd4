-- What the bytes of a token are, before words are looked up.
use Rattle.std.specs.Prelude.{◌≡◌, ℕ, true, List, Some}
use Rattle.c_lexer.specs.declared.longest.Shape.{Shape}
use Rattle.c_lexer.specs.declared.longest.Shape.TheVariants.{Word, Number, Char, Text, Dollar, Sign}
use Rattle.c_lexer.specs.Words.{sign_kind}
use Rattle.c_lexer.specs.Spelling.{is_word, is_number, is_char, is_text, is_dollar}

-- bytes that spell a token of a shape
abbrev pub HasShape : Shape → List ℕ → Type 0
HasShape Word bytes = is_word bytes ≡ true
HasShape Number bytes = is_number bytes ≡ true
HasShape Char bytes = is_char bytes ≡ true
HasShape Text bytes = is_text bytes ≡ true
HasShape Dollar bytes = is_dollar bytes ≡ true
HasShape (Sign sign) bytes = sign_kind bytes ≡ Some sign
