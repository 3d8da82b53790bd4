-- Before which tokens the readers of each nonterminal are asked to end: those that completions put behind them, and no
-- more.
use Rattle.std.specs.Prelude.{ℕ, Bool, true, false, ◌&&◌, not, [], length}
use Rattle.c_words.specs.declared.kinds.TokenKind.{TokenKind}
use Rattle.c_words.specs.declared.kinds.TokenKind.TheVariants as kinds
use Rattle.c_words.specs.declared.kinds.Punct.TheVariants as puncts
use Rattle.c_words.specs.declared.kinds.Keyword.TheVariants as keywords
use Rattle.c_reading.specs.declared.kinds.Reach.{Reach}
use Rattle.c_reading.specs.declared.kinds.Reach.TheVariants.{Whole, Assigned, Conditional, Castable, Unary}
use Rattle.c_reading.specs.declared.kinds.Mode.{Mode}
use Rattle.c_reading.specs.declared.kinds.Mode.TheVariants.{Named, Abstract, Either}
use Rattle.c_reading.specs.Tokens.{is_else, is_open_brace}
use Rattle.c_reading.specs.Parts.{Begun, nothing, extensions, star}
use Rattle.c_reading.specs.Specifying.{is_start, start_at}

-- a number
abbrev pub is_number : TokenKind → Bool
is_number kinds.Number = true
is_number kind = false

-- the keyword `int`
abbrev pub is_int : TokenKind → Bool
is_int (kinds.Keyword keywords.Int) = true
is_int kind = false

-- a name
abbrev pub is_name_kind : TokenKind → Bool
is_name_kind (kinds.Name name) = true
is_name_kind kind = false

-- an operand with its postfix forms, and an expression that does not go on with a comma
abbrev pub stops_operand : TokenKind → Bool
stops_operand (kinds.Punct puncts.CloseParen) = true
stops_operand (kinds.Punct puncts.CloseBracket) = true
stops_operand (kinds.Punct puncts.CloseBrace) = true
stops_operand (kinds.Punct puncts.Comma) = true
stops_operand (kinds.Punct puncts.Semicolon) = true
stops_operand (kinds.Punct puncts.Colon) = true
stops_operand kind = false

-- an expression that goes on with commas
abbrev pub stops_whole : TokenKind → Bool
stops_whole (kinds.Punct puncts.CloseParen) = true
stops_whole (kinds.Punct puncts.CloseBracket) = true
stops_whole (kinds.Punct puncts.CloseBrace) = true
stops_whole (kinds.Punct puncts.Semicolon) = true
stops_whole (kinds.Punct puncts.Colon) = true
stops_whole kind = false

-- an expression of a reach
abbrev pub stops_expr : Reach → TokenKind → Bool
stops_expr Whole kind = stops_whole kind
stops_expr Assigned kind = stops_operand kind
stops_expr Conditional kind = stops_operand kind
stops_expr Castable kind = stops_operand kind
stops_expr Unary kind = stops_operand kind

-- the name of a type, and a declarator that may be absent: also before the colon of an association
abbrev pub stops_type : TokenKind → Bool
stops_type (kinds.Punct puncts.CloseParen) = true
stops_type (kinds.Punct puncts.Comma) = true
stops_type (kinds.Punct puncts.Colon) = true
stops_type kind = false

-- specifiers in which a type stands
abbrev pub stops_specs : TokenKind → Bool
stops_specs kind = not (is_start (start_at [] true kind)) && not (is_open_brace kind)

-- a declarator with a name
abbrev pub stops_named : TokenKind → Bool
stops_named (kinds.Punct puncts.Semicolon) = true
stops_named (kinds.Punct puncts.CloseParen) = true
stops_named (kinds.Punct puncts.CloseBracket) = true
stops_named (kinds.Punct puncts.Comma) = true
stops_named (kinds.Punct puncts.Equal) = true
stops_named (kinds.Punct puncts.Colon) = true
stops_named (kinds.Punct puncts.OpenBrace) = true
stops_named kind = false

-- a declarator of a mode
abbrev pub stops_declr : Mode → TokenKind → Bool
stops_declr Named kind = stops_named kind
stops_declr Abstract kind = stops_type kind
stops_declr Either kind = stops_type kind

-- a statement, which may be one that takes an `else`
abbrev pub stops_stmt : TokenKind → Bool
stops_stmt kind = not (is_else kind)

-- how many levels stand over the first operand of an expression that was begun
abbrev pub begun_levels : Begun → ℕ
begun_levels nothing = 0
begun_levels (extensions tokens) = length tokens
begun_levels (star token) = 1
