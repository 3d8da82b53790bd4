-- Why the bytes of a unit spell no tokens: at the first place where they stop, with all before it read.
use Rattle.std.specs.Prelude.{◌≡◌, ℕ, true, false, List, drop, Result, Ok, Err, Bool}
use Rattle.c_lexer.specs.declared.lexing.LexFault.{LexFault}
use Rattle.c_lexer.specs.declared.lexing.LexFault.TheVariants.{BadByte, Unended, UnknownQualifier, NoMemory}
use Rattle.c_lexer.specs.declared.token.Token.{Token}
use Rattle.c_lexer.specs.declared.places.Mark.{Mark}
use Rattle.c_lexer.specs.Tokens.{Lexed}
use Rattle.c_lexer.specs.Places.{spot_at}
use Rattle.c_lexer.specs.Reading.{Meanings, Front, Reaches, IsStuck, IsUnknown, opens}

-- gaps and tokens in turn lead to the place of the fault, which the spot names; want of memory may come anywhere
abbrev pub IsRefusal : ℕ → Bool → Meanings → List ℕ → LexFault → Type 0
IsRefusal unit wide words bytes (BadByte spot) =
    (front : Front) × Reaches unit wide words bytes front × IsStuck bytes front × (opens (drop front.at bytes) ≡ false)
    × (spot ≡ spot_at unit bytes front.marks front.at)
IsRefusal unit wide words bytes (Unended spot) =
    (front : Front) × Reaches unit wide words bytes front × IsStuck bytes front × (opens (drop front.at bytes) ≡ true)
    × (spot ≡ spot_at unit bytes front.marks front.at)
IsRefusal unit wide words bytes (UnknownQualifier spot) =
    (front : Front) × Reaches unit wide words bytes front × IsUnknown unit words bytes front
    × (spot ≡ spot_at unit bytes front.marks front.at)
IsRefusal unit wide words bytes NoMemory = Unit {0}

-- tokens and marks are answered as these, unless memory is wanting
abbrev pub IsOnly : List Token → List Mark → Result Lexed LexFault → Type 0
IsOnly tokens marks (Ok lexed) = (lexed.tokens ≡ tokens) × (lexed.marks ≡ marks)
IsOnly tokens marks (Err fault) = fault ≡ NoMemory
