-- What a completion puts behind an operand, or begins one with, is nothing else.
use Rattle.std.proofs.Common.{◌≡◌, Bool, true, false, ◌⊎◌, inl, inr, refl}
use Rattle.c_words.specs.declared.kinds.TokenKind.{TokenKind}
use Rattle.c_words.specs.declared.kinds.TokenKind.TheVariants as kinds
use Rattle.c_words.specs.declared.kinds.Punct.{Punct}
use Rattle.c_words.specs.declared.kinds.Punct.TheVariants as puncts
use Rattle.c_words.specs.declared.kinds.Keyword.TheVariants as keywords
use Rattle.c_units.specs.HeldScopes.{HeldScopes}
use Rattle.c_reading.specs.declared.kinds.Reach.{Reach}
use Rattle.c_reading.specs.declared.kinds.Reach.TheVariants.{Whole, Assigned, Conditional, Castable, Unary}
use Rattle.c_reading.specs.declared.kinds.Opening.{Opening}
use Rattle.c_reading.specs.declared.kinds.Opening.TheVariants as openings
use Rattle.c_reading.specs.declared.kinds.PostfixForm.{PostfixForm}
use Rattle.c_reading.specs.declared.kinds.PostfixForm.TheVariants as forms
use Rattle.c_reading.specs.declared.kinds.Infix.{Infix}
use Rattle.c_reading.specs.declared.kinds.Infix.TheVariants as infixes
use Rattle.c_reading.specs.Tokens.{is_open_paren, is_close_paren, is_close_bracket, is_open_brace, is_close_brace, is_colon, is_comma, is_semicolon, is_dots, is_default, is_text, is_end}
use Rattle.c_reading.specs.Specifying.{begins_specs}
use Rattle.c_reading.specs.Expressing.{opening_of, form_of, infix_of, is_dot, begins_desig}
use Rattle.c_reading.specs.Initialising.{begins_init}
use Rattle.reading_steps.specs.Stops.{is_number, stops_operand, stops_whole, stops_expr, stops_type}

-- Behind an operand.

-- what stops an operand begins no form with a type's name
pub operand_no_form : (kind : TokenKind) → stops_operand kind ≡ true → form_of kind ≡ forms.Nothing
operand_no_form (kinds.Punct puncts.CloseParen) h = refl
operand_no_form (kinds.Punct puncts.CloseBracket) h = refl
operand_no_form (kinds.Punct puncts.CloseBrace) h = refl
operand_no_form (kinds.Punct puncts.Comma) h = refl
operand_no_form (kinds.Punct puncts.Semicolon) h = refl
operand_no_form (kinds.Punct puncts.Colon) h = refl
operand_no_form kind h = absurd cc

pub operand_no_text : (kind : TokenKind) → stops_operand kind ≡ true → is_text kind ≡ false
operand_no_text kinds.Text h = absurd cc
operand_no_text kind h = refl

pub operand_no_brace : (kind : TokenKind) → stops_operand kind ≡ true → is_open_brace kind ≡ false
operand_no_brace (kinds.Punct puncts.OpenBrace) h = absurd cc
operand_no_brace kind h = refl

pub operand_no_paren : (kind : TokenKind) → stops_operand kind ≡ true → is_open_paren kind ≡ false
operand_no_paren (kinds.Punct puncts.OpenParen) h = absurd cc
operand_no_paren kind h = refl

pub operand_no_specs : (s : HeldScopes) (kind : TokenKind) → stops_operand kind ≡ true → begins_specs s kind ≡ false
operand_no_specs s (kinds.Punct p) h = refl
operand_no_specs s kind h = absurd cc

-- what stops an expression with commas stops an operand
pub whole_operand : (kind : TokenKind) → stops_whole kind ≡ true → stops_operand kind ≡ true
whole_operand (kinds.Punct puncts.CloseParen) h = refl
whole_operand (kinds.Punct puncts.CloseBracket) h = refl
whole_operand (kinds.Punct puncts.CloseBrace) h = refl
whole_operand (kinds.Punct puncts.Semicolon) h = refl
whole_operand (kinds.Punct puncts.Colon) h = refl
whole_operand kind h = absurd cc

-- what stops an expression of any reach stops an operand
pub expr_operand : (reach : Reach) (kind : TokenKind) → stops_expr reach kind ≡ true → stops_operand kind ≡ true
expr_operand Whole kind h = whole_operand kind h
expr_operand Assigned kind h = h
expr_operand Conditional kind h = h
expr_operand Castable kind h = h
expr_operand Unary kind h = h

-- Single tokens that may stand behind an expression.

pub close_paren_whole : (kind : TokenKind) → is_close_paren kind ≡ true → stops_whole kind ≡ true
close_paren_whole (kinds.Punct puncts.CloseParen) h = refl
close_paren_whole kind h = absurd cc

pub close_bracket_whole : (kind : TokenKind) → is_close_bracket kind ≡ true → stops_whole kind ≡ true
close_bracket_whole (kinds.Punct puncts.CloseBracket) h = refl
close_bracket_whole kind h = absurd cc

pub close_brace_whole : (kind : TokenKind) → is_close_brace kind ≡ true → stops_whole kind ≡ true
close_brace_whole (kinds.Punct puncts.CloseBrace) h = refl
close_brace_whole kind h = absurd cc

pub colon_whole : (kind : TokenKind) → is_colon kind ≡ true → stops_whole kind ≡ true
colon_whole (kinds.Punct puncts.Colon) h = refl
colon_whole kind h = absurd cc

pub semicolon_whole : (kind : TokenKind) → is_semicolon kind ≡ true → stops_whole kind ≡ true
semicolon_whole (kinds.Punct puncts.Semicolon) h = refl
semicolon_whole kind h = absurd cc

pub comma_operand : (kind : TokenKind) → is_comma kind ≡ true → stops_operand kind ≡ true
comma_operand (kinds.Punct puncts.Comma) h = refl
comma_operand kind h = absurd cc

pub close_paren_type : (kind : TokenKind) → is_close_paren kind ≡ true → stops_type kind ≡ true
close_paren_type (kinds.Punct puncts.CloseParen) h = refl
close_paren_type kind h = absurd cc

pub comma_type : (kind : TokenKind) → is_comma kind ≡ true → stops_type kind ≡ true
comma_type (kinds.Punct puncts.Comma) h = refl
comma_type kind h = absurd cc

pub colon_type : (kind : TokenKind) → is_colon kind ≡ true → stops_type kind ≡ true
colon_type (kinds.Punct puncts.Colon) h = refl
colon_type kind h = absurd cc

pub close_bracket_no_dots : (kind : TokenKind) → is_close_bracket kind ≡ true → is_dots kind ≡ false
close_bracket_no_dots (kinds.Punct puncts.CloseBracket) h = refl
close_bracket_no_dots kind h = absurd cc

pub close_brace_no_colon : (kind : TokenKind) → is_close_brace kind ≡ true → is_colon kind ≡ false
close_brace_no_colon (kinds.Punct puncts.CloseBrace) h = refl
close_brace_no_colon kind h = absurd cc

pub default_end : (kind : TokenKind) → is_default kind ≡ true → is_end kind ≡ false
default_end kinds.End h = absurd cc
default_end kind h = refl

pub close_paren_no_comma : (kind : TokenKind) → is_close_paren kind ≡ true → is_comma kind ≡ false
close_paren_no_comma (kinds.Punct puncts.CloseParen) h = refl
close_paren_no_comma kind h = absurd cc

pub close_paren_no_desig : (kind : TokenKind) → is_close_paren kind ≡ true → begins_desig kind ≡ false
close_paren_no_desig (kinds.Punct puncts.CloseParen) h = refl
close_paren_no_desig kind h = absurd cc

pub close_brace_no_comma : (kind : TokenKind) → is_close_brace kind ≡ true → is_comma kind ≡ false
close_brace_no_comma (kinds.Punct puncts.CloseBrace) h = refl
close_brace_no_comma kind h = absurd cc

-- A number, and a parenthesis.

pub number_no_specs : (s : HeldScopes) (kind : TokenKind) → is_number kind ≡ true → begins_specs s kind ≡ false
number_no_specs s kinds.Number h = refl
number_no_specs s kind h = absurd cc

pub number_no_brace : (kind : TokenKind) → is_number kind ≡ true → is_open_brace kind ≡ false
number_no_brace kinds.Number h = refl
number_no_brace kind h = absurd cc

pub number_no_paren : (kind : TokenKind) → is_number kind ≡ true → is_open_paren kind ≡ false
number_no_paren kinds.Number h = refl
number_no_paren kind h = absurd cc

pub number_begins_init : (s : HeldScopes) (kind : TokenKind) → is_number kind ≡ true → begins_init s kind ≡ true
number_begins_init s kinds.Number h = refl
number_begins_init s kind h = absurd cc

-- What begins an operand, goes on behind one, or stands between two, is not the end.

abbrev pub is_form : PostfixForm → Bool
is_form forms.Nothing = false
is_form form = true

pub form_no_end : (kind : TokenKind) → is_form (form_of kind) ≡ true → is_end kind ≡ false
form_no_end kinds.End h = absurd cc
form_no_end kind h = refl

abbrev pub opens : Opening → Bool
opens openings.Nothing = false
opens opening = true

pub opening_no_end : (kind : TokenKind) → opens (opening_of kind) ≡ true → is_end kind ≡ false
opening_no_end kinds.End h = absurd cc
opening_no_end kind h = refl

abbrev pub is_infix : Infix → Bool
is_infix infixes.Nothing = false
is_infix infix_form = true

pub infix_no_end : (kind : TokenKind) → is_infix (infix_of kind) ≡ true → is_end kind ≡ false
infix_no_end kinds.End h = absurd cc
infix_no_end kind h = refl

pub desig_no_end : (kind : TokenKind) → begins_desig kind ≡ true → is_end kind ≡ false
desig_no_end kinds.End h = absurd cc
desig_no_end kind h = refl

pub dot_no_end : (kind : TokenKind) → is_dot kind ≡ true → is_end kind ≡ false
dot_no_end kinds.End h = absurd cc
dot_no_end kind h = refl

-- behind the sign of a unary form stands an expression that does not go on with a comma
abbrev pub is_tight : Reach → Bool
is_tight Whole = false
is_tight reach = true

abbrev pub opens_tight : Opening → Bool
opens_tight (openings.Prefix p reach) = is_tight reach
opens_tight opening = true

-- an operand of each prefix sign is read without commas
pub opening_tight : (kind : TokenKind) → opens_tight (opening_of kind) ≡ true
opening_tight (kinds.Punct p) = by_punct p
  where
    by_punct : (p : Punct) → opens_tight (opening_of (kinds.Punct p)) ≡ true
    by_punct puncts.OpenParen = refl
    by_punct puncts.PlusPlus = refl
    by_punct puncts.MinusMinus = refl
    by_punct puncts.Ampersand = refl
    by_punct puncts.Star = refl
    by_punct puncts.Plus = refl
    by_punct puncts.Minus = refl
    by_punct puncts.Tilde = refl
    by_punct puncts.Bang = refl
    by_punct p = refl
opening_tight (kinds.Keyword keywords.Sizeof) = refl
opening_tight (kinds.Keyword keywords.Alignof) = refl
opening_tight (kinds.Keyword keywords.Extension) = refl
opening_tight (kinds.Keyword keywords.VaArg) = refl
opening_tight (kinds.Keyword keywords.VaStart) = refl
opening_tight (kinds.Keyword keywords.VaCopy) = refl
opening_tight (kinds.Keyword keywords.Offsetof) = refl
opening_tight (kinds.Keyword keyword) = refl
opening_tight (kinds.Name name) = refl
opening_tight kinds.Number = refl
opening_tight kinds.Char = refl
opening_tight kinds.Text = refl
opening_tight kind = refl

-- what stops an operand stops an expression that does not go on with commas
pub tight_stops : (reach : Reach) → is_tight reach ≡ true → (kind : TokenKind) → stops_operand kind ≡ true
    → stops_expr reach kind ≡ true
tight_stops Whole tight kind h = absurd cc
tight_stops Assigned tight kind h = h
tight_stops Conditional tight kind h = h
tight_stops Castable tight kind h = h
tight_stops Unary tight kind h = h

-- between two operands: a comma where the expression does not go on with one, or nothing
pub operand_infix : (kind : TokenKind) → stops_operand kind ≡ true
    → (infix_of kind ≡ infixes.Nothing) ⊎ (infix_of kind ≡ infixes.Comma)
operand_infix (kinds.Punct puncts.CloseParen) h = inl refl
operand_infix (kinds.Punct puncts.CloseBracket) h = inl refl
operand_infix (kinds.Punct puncts.CloseBrace) h = inl refl
operand_infix (kinds.Punct puncts.Comma) h = inr refl
operand_infix (kinds.Punct puncts.Semicolon) h = inl refl
operand_infix (kinds.Punct puncts.Colon) h = inl refl
operand_infix kind h = absurd cc

-- what stops an expression with commas is no infix sign
pub whole_infix : (kind : TokenKind) → stops_whole kind ≡ true → infix_of kind ≡ infixes.Nothing
whole_infix (kinds.Punct puncts.CloseParen) h = refl
whole_infix (kinds.Punct puncts.CloseBracket) h = refl
whole_infix (kinds.Punct puncts.CloseBrace) h = refl
whole_infix (kinds.Punct puncts.Semicolon) h = refl
whole_infix (kinds.Punct puncts.Colon) h = refl
whole_infix kind h = absurd cc
