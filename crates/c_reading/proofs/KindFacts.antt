-- What the kind of a first token says: which others it is not.
use Rattle.std.proofs.Common.{◌≡◌, ℕ, Bool, true, false, [], refl}
use Rattle.std.specs.Prelude.{not, ◌&&◌}
use Rattle.c_words.specs.declared.kinds.TokenKind.{TokenKind}
use Rattle.c_words.specs.declared.kinds.TokenKind.TheVariants as kinds
use Rattle.c_words.specs.declared.kinds.Punct.TheVariants as puncts
use Rattle.c_words.specs.declared.kinds.Keyword.TheVariants as keywords
use Rattle.c_units.specs.HeldScopes.{HeldScopes, names_type}
use Rattle.c_reading.specs.Tokens.{is_open_brace, is_close_brace, is_open_paren, is_close_paren, is_open_bracket, is_close_bracket, is_semicolon, is_colon, is_comma, is_equal, is_star, is_dots, is_attribute, is_static_assert, is_extension, is_asm, is_else, is_while, is_end, is_text, is_default, is_base_word}
use Rattle.c_reading.specs.declared.kinds.SpecStart.{SpecStart}
use Rattle.c_reading.specs.declared.kinds.SpecStart.TheVariants as starts
use Rattle.c_reading.specs.Specifying.{is_start, kind_start, typed_start, start_at, begins_specs}
use Rattle.c_reading.specs.Expressing.{begins_expr}
use Rattle.c_reading.proofs.Aims.{ends_specs, begins_named, begins_abstract}

-- an expression begins
pub expr_no_open_brace : (s : HeldScopes) (kind : TokenKind) → begins_expr s kind ≡ true → is_open_brace kind ≡ false
expr_no_open_brace s (kinds.Punct puncts.OpenBrace) e = absurd cc
expr_no_open_brace s kind e = refl

pub expr_no_close_brace : (s : HeldScopes) (kind : TokenKind) → begins_expr s kind ≡ true → is_close_brace kind ≡ false
expr_no_close_brace s (kinds.Punct puncts.CloseBrace) e = absurd cc
expr_no_close_brace s kind e = refl

pub expr_no_close_paren : (s : HeldScopes) (kind : TokenKind) → begins_expr s kind ≡ true → is_close_paren kind ≡ false
expr_no_close_paren s (kinds.Punct puncts.CloseParen) e = absurd cc
expr_no_close_paren s kind e = refl

pub expr_no_close_bracket : (s : HeldScopes) (kind : TokenKind) → begins_expr s kind ≡ true
    → is_close_bracket kind ≡ false
expr_no_close_bracket s (kinds.Punct puncts.CloseBracket) e = absurd cc
expr_no_close_bracket s kind e = refl

pub expr_no_semicolon : (s : HeldScopes) (kind : TokenKind) → begins_expr s kind ≡ true → is_semicolon kind ≡ false
expr_no_semicolon s (kinds.Punct puncts.Semicolon) e = absurd cc
expr_no_semicolon s kind e = refl

pub expr_no_colon : (s : HeldScopes) (kind : TokenKind) → begins_expr s kind ≡ true → is_colon kind ≡ false
expr_no_colon s (kinds.Punct puncts.Colon) e = absurd cc
expr_no_colon s kind e = refl

pub expr_no_equal : (s : HeldScopes) (kind : TokenKind) → begins_expr s kind ≡ true → is_equal kind ≡ false
expr_no_equal s (kinds.Punct puncts.Equal) e = absurd cc
expr_no_equal s kind e = refl

pub expr_no_attribute : (s : HeldScopes) (kind : TokenKind) → begins_expr s kind ≡ true → is_attribute kind ≡ false
expr_no_attribute s (kinds.Keyword keywords.Attribute) e = absurd cc
expr_no_attribute s kind e = refl

pub expr_no_static_assert : (s : HeldScopes) (kind : TokenKind) → begins_expr s kind ≡ true
    → is_static_assert kind ≡ false
expr_no_static_assert s (kinds.Keyword keywords.StaticAssert) e = absurd cc
expr_no_static_assert s kind e = refl

pub expr_no_else : (s : HeldScopes) (kind : TokenKind) → begins_expr s kind ≡ true → is_else kind ≡ false
expr_no_else s (kinds.Keyword keywords.Else) e = absurd cc
expr_no_else s kind e = refl

-- specifiers begin
pub specs_no_open_brace : (s : HeldScopes) (kind : TokenKind) → begins_specs s kind ≡ true → is_open_brace kind ≡ false
specs_no_open_brace s (kinds.Punct puncts.OpenBrace) e = absurd cc
specs_no_open_brace s kind e = refl

pub specs_no_close_brace : (s : HeldScopes) (kind : TokenKind) → begins_specs s kind ≡ true
    → is_close_brace kind ≡ false
specs_no_close_brace s (kinds.Punct puncts.CloseBrace) e = absurd cc
specs_no_close_brace s kind e = refl

pub specs_no_close_paren : (s : HeldScopes) (kind : TokenKind) → begins_specs s kind ≡ true
    → is_close_paren kind ≡ false
specs_no_close_paren s (kinds.Punct puncts.CloseParen) e = absurd cc
specs_no_close_paren s kind e = refl

pub specs_no_semicolon : (s : HeldScopes) (kind : TokenKind) → begins_specs s kind ≡ true → is_semicolon kind ≡ false
specs_no_semicolon s (kinds.Punct puncts.Semicolon) e = absurd cc
specs_no_semicolon s kind e = refl

pub specs_no_dots : (s : HeldScopes) (kind : TokenKind) → begins_specs s kind ≡ true → is_dots kind ≡ false
specs_no_dots s (kinds.Punct puncts.Ellipsis) e = absurd cc
specs_no_dots s kind e = refl

pub specs_no_static_assert : (s : HeldScopes) (kind : TokenKind) → begins_specs s kind ≡ true
    → is_static_assert kind ≡ false
specs_no_static_assert s (kinds.Keyword keywords.StaticAssert) e = absurd cc
specs_no_static_assert s kind e = refl

pub specs_no_extension : (s : HeldScopes) (kind : TokenKind) → begins_specs s kind ≡ true → is_extension kind ≡ false
specs_no_extension s (kinds.Keyword keywords.Extension) e = absurd cc
specs_no_extension s kind e = refl

pub specs_no_asm : (s : HeldScopes) (kind : TokenKind) → begins_specs s kind ≡ true → is_asm kind ≡ false
specs_no_asm s (kinds.Keyword keywords.Asm) e = absurd cc
specs_no_asm s kind e = refl

pub specs_no_default : (s : HeldScopes) (kind : TokenKind) → begins_specs s kind ≡ true → is_default kind ≡ false
specs_no_default s (kinds.Keyword keywords.Default) e = absurd cc
specs_no_default s kind e = refl

pub specs_no_else : (s : HeldScopes) (kind : TokenKind) → begins_specs s kind ≡ true → is_else kind ≡ false
specs_no_else s (kinds.Keyword keywords.Else) e = absurd cc
specs_no_else s kind e = refl

pub named_no_close_paren : (kind : TokenKind) → begins_named kind ≡ true → is_close_paren kind ≡ false
named_no_close_paren (kinds.Punct puncts.CloseParen) e = absurd cc
named_no_close_paren kind e = refl

pub named_no_semicolon : (kind : TokenKind) → begins_named kind ≡ true → is_semicolon kind ≡ false
named_no_semicolon (kinds.Punct puncts.Semicolon) e = absurd cc
named_no_semicolon kind e = refl

pub named_no_colon : (kind : TokenKind) → begins_named kind ≡ true → is_colon kind ≡ false
named_no_colon (kinds.Punct puncts.Colon) e = absurd cc
named_no_colon kind e = refl

pub named_no_attribute : (kind : TokenKind) → begins_named kind ≡ true → is_attribute kind ≡ false
named_no_attribute (kinds.Keyword keywords.Attribute) e = absurd cc
named_no_attribute kind e = refl

pub abstract_no_close_paren : (kind : TokenKind) → begins_abstract kind ≡ true → is_close_paren kind ≡ false
abstract_no_close_paren (kinds.Punct puncts.CloseParen) e = absurd cc
abstract_no_close_paren kind e = refl

pub abstract_no_attribute : (kind : TokenKind) → begins_abstract kind ≡ true → is_attribute kind ≡ false
abstract_no_attribute (kinds.Keyword keywords.Attribute) e = absurd cc
abstract_no_attribute kind e = refl

-- what an expression begins with begins no specifiers, and the other way round
pub expr_no_specs : (s : HeldScopes) (kind : TokenKind) → begins_expr s kind ≡ true → begins_specs s kind ≡ false
expr_no_specs s (kinds.Name name) e = by_kind (names_type s name) refl e
  where
    by_kind : (b : Bool) → names_type s name ≡ b → not b ≡ true → begins_specs s (kinds.Name name) ≡ false
    by_kind true is e = absurd cc
    by_kind false is e = rw is refl
expr_no_specs s (kinds.Keyword keywords.Sizeof) e = refl
expr_no_specs s (kinds.Keyword keywords.Alignof) e = refl
expr_no_specs s (kinds.Keyword keywords.Extension) e = refl
expr_no_specs s (kinds.Keyword keywords.VaArg) e = refl
expr_no_specs s (kinds.Keyword keywords.VaStart) e = refl
expr_no_specs s (kinds.Keyword keywords.VaCopy) e = refl
expr_no_specs s (kinds.Keyword keywords.Offsetof) e = refl
expr_no_specs s (kinds.Keyword keywords.Part) e = refl
expr_no_specs s (kinds.Keyword keywords.Compatible) e = refl
expr_no_specs s (kinds.Keyword keywords.Choose) e = refl
expr_no_specs s (kinds.Keyword keywords.Generic) e = refl
expr_no_specs s (kinds.Keyword keyword) e = absurd cc
expr_no_specs s (kinds.Qual lattice elem) e = absurd cc
expr_no_specs s kinds.Index e = absurd cc
expr_no_specs s kind e = refl

-- a name that is a typedef name begins specifiers
pub name_begins : (s : HeldScopes) (name : ℕ) → names_type s name ≡ true → begins_specs s (kinds.Name name) ≡ true
name_begins s name is = rw is refl

pub name_begins_not : (s : HeldScopes) (name : ℕ) → names_type s name ≡ false → begins_specs s (kinds.Name name) ≡ false
name_begins_not s name is = rw is refl

-- where a type stands, what begins a word does not rest on the scopes
typed_start_same : (s : HeldScopes) (start : SpecStart)
    → is_start (typed_start s true start) ≡ is_start (typed_start [] true start)
typed_start_same s (starts.Name name) = by_kind (names_type s name) refl
  where
    by_kind : (b : Bool) → names_type s name ≡ b → is_start (typed_start s true (starts.Name name)) ≡ false
    by_kind true is = rw is refl
    by_kind false is = rw is refl
typed_start_same s start = refl

pub typed_same : (s : HeldScopes) (kind : TokenKind)
    → is_start (start_at s true kind) ≡ is_start (start_at [] true kind)
typed_same s kind = typed_start_same s (kind_start kind)

-- behind specifiers may stand a declarator
pub named_ends_specs : (kind : TokenKind) → begins_named kind ≡ true → is_base_word kind ≡ false
    → ends_specs kind ≡ true
named_ends_specs (kinds.Punct puncts.Star) e base = refl
named_ends_specs (kinds.Punct puncts.OpenParen) e base = refl
named_ends_specs (kinds.Name name) e base = refl
named_ends_specs (kinds.Keyword keywords.BaseWord) e base = absurd cc
named_ends_specs kind e base = absurd cc

-- what begins a declarator without a name ends specifiers
pub abstract_ends_specs : (kind : TokenKind) → begins_abstract kind ≡ true → ends_specs kind ≡ true
abstract_ends_specs (kinds.Punct puncts.Star) e = refl
abstract_ends_specs (kinds.Punct puncts.OpenParen) e = refl
abstract_ends_specs (kinds.Punct puncts.OpenBracket) e = refl
abstract_ends_specs kind e = absurd cc

pub default_kind : (kind : TokenKind) → is_default kind ≡ true → kind ≡ kinds.Keyword keywords.Default
default_kind (kinds.Keyword keywords.Default) e = refl
default_kind kind e = absurd cc

pub base_kind : (kind : TokenKind) → is_base_word kind ≡ true → kind ≡ kinds.Keyword keywords.BaseWord
base_kind (kinds.Keyword keywords.BaseWord) e = refl
base_kind kind e = absurd cc

pub both : {a b : Bool} → a ≡ true → b ≡ true → (a && b) ≡ true
both h k = rw (h, k) refl

pub not_true : {b : Bool} → not b ≡ true → b ≡ false
not_true {b = true} e = absurd cc
not_true {b = false} e = refl

pub not_false : {b : Bool} → b ≡ false → not b ≡ true
not_false h = rw h refl

pub open_brace_kind : (kind : TokenKind) → is_open_brace kind ≡ true → kind ≡ kinds.Punct puncts.OpenBrace
open_brace_kind (kinds.Punct puncts.OpenBrace) e = refl
open_brace_kind kind e = absurd cc

pub close_brace_kind : (kind : TokenKind) → is_close_brace kind ≡ true → kind ≡ kinds.Punct puncts.CloseBrace
close_brace_kind (kinds.Punct puncts.CloseBrace) e = refl
close_brace_kind kind e = absurd cc

pub open_paren_kind : (kind : TokenKind) → is_open_paren kind ≡ true → kind ≡ kinds.Punct puncts.OpenParen
open_paren_kind (kinds.Punct puncts.OpenParen) e = refl
open_paren_kind kind e = absurd cc

pub close_paren_kind : (kind : TokenKind) → is_close_paren kind ≡ true → kind ≡ kinds.Punct puncts.CloseParen
close_paren_kind (kinds.Punct puncts.CloseParen) e = refl
close_paren_kind kind e = absurd cc

pub open_bracket_kind : (kind : TokenKind) → is_open_bracket kind ≡ true → kind ≡ kinds.Punct puncts.OpenBracket
open_bracket_kind (kinds.Punct puncts.OpenBracket) e = refl
open_bracket_kind kind e = absurd cc

pub close_bracket_kind : (kind : TokenKind) → is_close_bracket kind ≡ true → kind ≡ kinds.Punct puncts.CloseBracket
close_bracket_kind (kinds.Punct puncts.CloseBracket) e = refl
close_bracket_kind kind e = absurd cc

pub semicolon_kind : (kind : TokenKind) → is_semicolon kind ≡ true → kind ≡ kinds.Punct puncts.Semicolon
semicolon_kind (kinds.Punct puncts.Semicolon) e = refl
semicolon_kind kind e = absurd cc

pub colon_kind : (kind : TokenKind) → is_colon kind ≡ true → kind ≡ kinds.Punct puncts.Colon
colon_kind (kinds.Punct puncts.Colon) e = refl
colon_kind kind e = absurd cc

pub comma_kind : (kind : TokenKind) → is_comma kind ≡ true → kind ≡ kinds.Punct puncts.Comma
comma_kind (kinds.Punct puncts.Comma) e = refl
comma_kind kind e = absurd cc

pub equal_kind : (kind : TokenKind) → is_equal kind ≡ true → kind ≡ kinds.Punct puncts.Equal
equal_kind (kinds.Punct puncts.Equal) e = refl
equal_kind kind e = absurd cc

pub star_kind : (kind : TokenKind) → is_star kind ≡ true → kind ≡ kinds.Punct puncts.Star
star_kind (kinds.Punct puncts.Star) e = refl
star_kind kind e = absurd cc

pub dots_kind : (kind : TokenKind) → is_dots kind ≡ true → kind ≡ kinds.Punct puncts.Ellipsis
dots_kind (kinds.Punct puncts.Ellipsis) e = refl
dots_kind kind e = absurd cc

pub attribute_kind : (kind : TokenKind) → is_attribute kind ≡ true → kind ≡ kinds.Keyword keywords.Attribute
attribute_kind (kinds.Keyword keywords.Attribute) e = refl
attribute_kind kind e = absurd cc

pub static_assert_kind : (kind : TokenKind) → is_static_assert kind ≡ true → kind ≡ kinds.Keyword keywords.StaticAssert
static_assert_kind (kinds.Keyword keywords.StaticAssert) e = refl
static_assert_kind kind e = absurd cc

pub extension_kind : (kind : TokenKind) → is_extension kind ≡ true → kind ≡ kinds.Keyword keywords.Extension
extension_kind (kinds.Keyword keywords.Extension) e = refl
extension_kind kind e = absurd cc

pub asm_kind : (kind : TokenKind) → is_asm kind ≡ true → kind ≡ kinds.Keyword keywords.Asm
asm_kind (kinds.Keyword keywords.Asm) e = refl
asm_kind kind e = absurd cc

pub else_kind : (kind : TokenKind) → is_else kind ≡ true → kind ≡ kinds.Keyword keywords.Else
else_kind (kinds.Keyword keywords.Else) e = refl
else_kind kind e = absurd cc

pub while_kind : (kind : TokenKind) → is_while kind ≡ true → kind ≡ kinds.Keyword keywords.While
while_kind (kinds.Keyword keywords.While) e = refl
while_kind kind e = absurd cc

pub end_kind : (kind : TokenKind) → is_end kind ≡ true → kind ≡ kinds.End
end_kind kinds.End e = refl
end_kind kind e = absurd cc

pub text_kind : (kind : TokenKind) → is_text kind ≡ true → kind ≡ kinds.Text
text_kind kinds.Text e = refl
text_kind kind e = absurd cc
