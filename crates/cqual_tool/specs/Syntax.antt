-- The lines of files whose tokens are those of no well-formed unit.
use Rattle.std.specs.Prelude.{ℕ, List, [], codes, length, nat_lt, if◌then◌else◌}
use Rattle.c_lexer.specs.Tokens.{Lexed, token_spot}
use Rattle.c_reading.specs.declared.kinds.FaultKind.{FaultKind}
use Rattle.c_reading.specs.declared.kinds.FaultKind.TheVariants.{Unexpected, TooDeep, Redeclared, BadMix, BadTarget}
use Rattle.reader_base.specs.declared.fault.ReadError.{ReadError}
use Rattle.reader_base.specs.declared.fault.ReadError.TheVariants.{Fault, NoMemory}
use Rattle.cqual_tool.specs.Faults.{placed_line}
use Rattle.annotate.specs.Texts.{spot_text}
use Rattle.cqual_tool.specs.Texts.{malformed_line}

-- a fault at a token, or of the whole file where there is no such token
abbrev pub token_line : List ℕ → Lexed → ℕ → List ℕ → List ℕ
token_line file lexed token code =
    if nat_lt token (length lexed.tokens) then placed_line (spot_text file lexed.bytes (token_spot lexed token)) code
    else malformed_line file code

-- the code of a rule of the grammar
abbrev pub syntax_code : FaultKind → List ℕ
syntax_code Unexpected = codes "S1"
syntax_code TooDeep = codes "S2"
syntax_code Redeclared = codes "N1"
syntax_code BadMix = codes "C1"
syntax_code BadTarget = codes "O1"

-- the line of a fault: the code of its rule, at its token; want of memory has none
abbrev pub syntax_line : List ℕ → Lexed → ReadError → List ℕ
syntax_line file lexed (Fault rule token) = token_line file lexed token (syntax_code rule)
syntax_line file lexed NoMemory = []
