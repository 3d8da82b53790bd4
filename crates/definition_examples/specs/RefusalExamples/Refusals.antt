-- Small sources that are refused, each with the token that is refused first and why. The trees were made from
-- the sources by a program outside the repository.
use Rattle.std.specs.Prelude.{ℕ, false, ◌<◌, List, [], ◌∷◌, ◌++◌, replicate, take}
use Rattle.c_words.specs.declared.kinds.TokenKind.{TokenKind}
use Rattle.c_words.specs.declared.kinds.TokenKind.TheVariants as kinds
use Rattle.c_words.specs.declared.kinds.Keyword.TheVariants as words
use Rattle.c_words.specs.declared.kinds.Punct.TheVariants as signs
use Rattle.c_units.specs.FirstBad.{BeginsUnit}
use Rattle.refusal_rules.specs.Allowed.{Code, syntax, too_deep, other_kind, no_mix, no_unary_left, BeginsTree, MayBe, IsAllowed}

-- A unit begins with the tokens before this one, so that no refusal of an earlier token is allowed; a tree begins
-- with them too, and the code may be that of this token. That no unit begins with the tokens up to it, of this
-- height or any, is not said here.
pub record IsRefusedAt (tokens : List TokenKind) (at : ℕ) (code : Code) : Type 0 where
  pub unit : BeginsUnit false (take at tokens)
  pub tree : BeginsTree (take at tokens)
  pub may_be : MayBe false code tokens at
  pub earlier : (n : ℕ) (other : Code) → IsAllowed false tokens n other → ¬ (n < at)

-- long float x;
abbrev pub float_behind_long : List TokenKind
float_behind_long =
    kinds.Keyword words.Long ∷ kinds.Keyword words.Float ∷ kinds.Name 0 ∷ kinds.Punct signs.Semicolon ∷ kinds.End ∷ []

-- typedef int T; void f(void) { T int x; }
abbrev pub int_behind_typedef_name : List TokenKind
int_behind_typedef_name =
    kinds.Keyword words.Typedef ∷ kinds.Keyword words.Int ∷ kinds.Name 0 ∷ kinds.Punct signs.Semicolon ∷
    kinds.Keyword words.Void ∷ kinds.Name 1 ∷ kinds.Punct signs.OpenParen ∷ kinds.Keyword words.Void ∷
    kinds.Punct signs.CloseParen ∷ kinds.Punct signs.OpenBrace ∷ kinds.Name 0 ∷ kinds.Keyword words.Int ∷
    kinds.Name 2 ∷ kinds.Punct signs.Semicolon ∷ kinds.Punct signs.CloseBrace ∷ kinds.End ∷ []

-- typedef int A; int A;
abbrev pub object_named_as_typedef : List TokenKind
object_named_as_typedef =
    kinds.Keyword words.Typedef ∷ kinds.Keyword words.Int ∷ kinds.Name 0 ∷ kinds.Punct signs.Semicolon ∷
    kinds.Keyword words.Int ∷ kinds.Name 0 ∷ kinds.Punct signs.Semicolon ∷ kinds.End ∷ []

-- typedef int T; enum { T };
abbrev pub enumerator_named_as_typedef : List TokenKind
enumerator_named_as_typedef =
    kinds.Keyword words.Typedef ∷ kinds.Keyword words.Int ∷ kinds.Name 0 ∷ kinds.Punct signs.Semicolon ∷
    kinds.Keyword words.Enum ∷ kinds.Punct signs.OpenBrace ∷ kinds.Name 0 ∷ kinds.Punct signs.CloseBrace ∷
    kinds.Punct signs.Semicolon ∷ kinds.End ∷ []

-- void f(enum { A } x) { int A; }
abbrev pub object_named_as_enumerator : List TokenKind
object_named_as_enumerator =
    kinds.Keyword words.Void ∷ kinds.Name 0 ∷ kinds.Punct signs.OpenParen ∷ kinds.Keyword words.Enum ∷
    kinds.Punct signs.OpenBrace ∷ kinds.Name 1 ∷ kinds.Punct signs.CloseBrace ∷ kinds.Name 2 ∷
    kinds.Punct signs.CloseParen ∷ kinds.Punct signs.OpenBrace ∷ kinds.Keyword words.Int ∷ kinds.Name 1 ∷
    kinds.Punct signs.Semicolon ∷ kinds.Punct signs.CloseBrace ∷ kinds.End ∷ []

-- int x; void f(void) { x + 1 = 2; }
abbrev pub sum_assigned : List TokenKind
sum_assigned =
    kinds.Keyword words.Int ∷ kinds.Name 0 ∷ kinds.Punct signs.Semicolon ∷ kinds.Keyword words.Void ∷ kinds.Name 1 ∷
    kinds.Punct signs.OpenParen ∷ kinds.Keyword words.Void ∷ kinds.Punct signs.CloseParen ∷
    kinds.Punct signs.OpenBrace ∷ kinds.Name 0 ∷ kinds.Punct signs.Plus ∷ kinds.Number ∷ kinds.Punct signs.Equal ∷
    kinds.Number ∷ kinds.Punct signs.Semicolon ∷ kinds.Punct signs.CloseBrace ∷ kinds.End ∷ []

-- int y = x ? x : x = 1;
abbrev pub conditional_assigned : List TokenKind
conditional_assigned =
    kinds.Keyword words.Int ∷ kinds.Name 0 ∷ kinds.Punct signs.Equal ∷ kinds.Name 1 ∷ kinds.Punct signs.Question ∷
    kinds.Name 1 ∷ kinds.Punct signs.Colon ∷ kinds.Name 1 ∷ kinds.Punct signs.Equal ∷ kinds.Number ∷
    kinds.Punct signs.Semicolon ∷ kinds.End ∷ []

-- int x; void f(void) { (int)x = 1; }
abbrev pub cast_assigned : List TokenKind
cast_assigned =
    kinds.Keyword words.Int ∷ kinds.Name 0 ∷ kinds.Punct signs.Semicolon ∷ kinds.Keyword words.Void ∷ kinds.Name 1 ∷
    kinds.Punct signs.OpenParen ∷ kinds.Keyword words.Void ∷ kinds.Punct signs.CloseParen ∷
    kinds.Punct signs.OpenBrace ∷ kinds.Punct signs.OpenParen ∷ kinds.Keyword words.Int ∷
    kinds.Punct signs.CloseParen ∷ kinds.Name 0 ∷ kinds.Punct signs.Equal ∷ kinds.Number ∷
    kinds.Punct signs.Semicolon ∷ kinds.Punct signs.CloseBrace ∷ kinds.End ∷ []

-- int x[sizeof(enum { x })];
abbrev pub held_name_enumerated : List TokenKind
held_name_enumerated =
    kinds.Keyword words.Int ∷ kinds.Name 0 ∷ kinds.Punct signs.OpenBracket ∷ kinds.Keyword words.Sizeof ∷
    kinds.Punct signs.OpenParen ∷ kinds.Keyword words.Enum ∷ kinds.Punct signs.OpenBrace ∷ kinds.Name 0 ∷
    kinds.Punct signs.CloseBrace ∷ kinds.Punct signs.CloseParen ∷ kinds.Punct signs.CloseBracket ∷
    kinds.Punct signs.Semicolon ∷ kinds.End ∷ []

-- int x = ++(int)x;
abbrev pub cast_incremented : List TokenKind
cast_incremented =
    kinds.Keyword words.Int ∷ kinds.Name 0 ∷ kinds.Punct signs.Equal ∷ kinds.Punct signs.PlusPlus ∷
    kinds.Punct signs.OpenParen ∷ kinds.Keyword words.Int ∷ kinds.Punct signs.CloseParen ∷ kinds.Name 0 ∷
    kinds.Punct signs.Semicolon ∷ kinds.End ∷ []

-- int x = sizeof(int)[1];
abbrev pub sizeof_type_indexed : List TokenKind
sizeof_type_indexed =
    kinds.Keyword words.Int ∷ kinds.Name 0 ∷ kinds.Punct signs.Equal ∷ kinds.Keyword words.Sizeof ∷
    kinds.Punct signs.OpenParen ∷ kinds.Keyword words.Int ∷ kinds.Punct signs.CloseParen ∷
    kinds.Punct signs.OpenBracket ∷ kinds.Number ∷ kinds.Punct signs.CloseBracket ∷ kinds.Punct signs.Semicolon ∷
    kinds.End ∷ []

-- int f(int a, const);
abbrev pub words_without_type : List TokenKind
words_without_type =
    kinds.Keyword words.Int ∷ kinds.Name 0 ∷ kinds.Punct signs.OpenParen ∷ kinds.Keyword words.Int ∷ kinds.Name 1 ∷
    kinds.Punct signs.Comma ∷ kinds.Keyword words.Const ∷ kinds.Punct signs.CloseParen ∷ kinds.Punct signs.Semicolon ∷
    kinds.End ∷ []

-- int f(int, __attribute__((a)) ...);
abbrev pub dots_behind_attribute : List TokenKind
dots_behind_attribute =
    kinds.Keyword words.Int ∷ kinds.Name 0 ∷ kinds.Punct signs.OpenParen ∷ kinds.Keyword words.Int ∷
    kinds.Punct signs.Comma ∷ kinds.Keyword words.Attribute ∷ kinds.Punct signs.OpenParen ∷
    kinds.Punct signs.OpenParen ∷ kinds.Name 1 ∷ kinds.Punct signs.CloseParen ∷ kinds.Punct signs.CloseParen ∷
    kinds.Punct signs.Ellipsis ∷ kinds.Punct signs.CloseParen ∷ kinds.Punct signs.Semicolon ∷ kinds.End ∷ []

-- void f(int (__attribute__((a))));
abbrev pub attribute_without_parameter : List TokenKind
attribute_without_parameter =
    kinds.Keyword words.Void ∷ kinds.Name 0 ∷ kinds.Punct signs.OpenParen ∷ kinds.Keyword words.Int ∷
    kinds.Punct signs.OpenParen ∷ kinds.Keyword words.Attribute ∷ kinds.Punct signs.OpenParen ∷
    kinds.Punct signs.OpenParen ∷ kinds.Name 1 ∷ kinds.Punct signs.CloseParen ∷ kinds.Punct signs.CloseParen ∷
    kinds.Punct signs.CloseParen ∷ kinds.Punct signs.CloseParen ∷ kinds.Punct signs.Semicolon ∷ kinds.End ∷ []

-- int x, f() { }
abbrev pub function_behind_comma : List TokenKind
function_behind_comma =
    kinds.Keyword words.Int ∷ kinds.Name 0 ∷ kinds.Punct signs.Comma ∷ kinds.Name 1 ∷ kinds.Punct signs.OpenParen ∷
    kinds.Punct signs.CloseParen ∷ kinds.Punct signs.OpenBrace ∷ kinds.Punct signs.CloseBrace ∷ kinds.End ∷ []

-- typedef int f(int) { }
abbrev pub function_of_typedef : List TokenKind
function_of_typedef =
    kinds.Keyword words.Typedef ∷ kinds.Keyword words.Int ∷ kinds.Name 0 ∷ kinds.Punct signs.OpenParen ∷
    kinds.Keyword words.Int ∷ kinds.Punct signs.CloseParen ∷ kinds.Punct signs.OpenBrace ∷
    kinds.Punct signs.CloseBrace ∷ kinds.End ∷ []

-- int f() __attribute__((a)) asm("l");
abbrev pub label_behind_attribute : List TokenKind
label_behind_attribute =
    kinds.Keyword words.Int ∷ kinds.Name 0 ∷ kinds.Punct signs.OpenParen ∷ kinds.Punct signs.CloseParen ∷
    kinds.Keyword words.Attribute ∷ kinds.Punct signs.OpenParen ∷ kinds.Punct signs.OpenParen ∷ kinds.Name 1 ∷
    kinds.Punct signs.CloseParen ∷ kinds.Punct signs.CloseParen ∷ kinds.Keyword words.Asm ∷
    kinds.Punct signs.OpenParen ∷ kinds.Text ∷ kinds.Punct signs.CloseParen ∷ kinds.Punct signs.Semicolon ∷
    kinds.End ∷ []

-- typedef int T; void f(void) { if (1) T y; }
abbrev pub declaration_in_if : List TokenKind
declaration_in_if =
    kinds.Keyword words.Typedef ∷ kinds.Keyword words.Int ∷ kinds.Name 0 ∷ kinds.Punct signs.Semicolon ∷
    kinds.Keyword words.Void ∷ kinds.Name 1 ∷ kinds.Punct signs.OpenParen ∷ kinds.Keyword words.Void ∷
    kinds.Punct signs.CloseParen ∷ kinds.Punct signs.OpenBrace ∷ kinds.Keyword words.If ∷
    kinds.Punct signs.OpenParen ∷ kinds.Number ∷ kinds.Punct signs.CloseParen ∷ kinds.Name 0 ∷ kinds.Name 2 ∷
    kinds.Punct signs.Semicolon ∷ kinds.Punct signs.CloseBrace ∷ kinds.End ∷ []

-- typedef int T; void f(void) { enum { A, T = (T)1, B = (T)1 }; }
abbrev pub typedef_hidden_in_its_enum : List TokenKind
typedef_hidden_in_its_enum =
    kinds.Keyword words.Typedef ∷ kinds.Keyword words.Int ∷ kinds.Name 0 ∷ kinds.Punct signs.Semicolon ∷
    kinds.Keyword words.Void ∷ kinds.Name 1 ∷ kinds.Punct signs.OpenParen ∷ kinds.Keyword words.Void ∷
    kinds.Punct signs.CloseParen ∷ kinds.Punct signs.OpenBrace ∷ kinds.Keyword words.Enum ∷
    kinds.Punct signs.OpenBrace ∷ kinds.Name 2 ∷ kinds.Punct signs.Comma ∷ kinds.Name 0 ∷ kinds.Punct signs.Equal ∷
    kinds.Punct signs.OpenParen ∷ kinds.Name 0 ∷ kinds.Punct signs.CloseParen ∷ kinds.Number ∷
    kinds.Punct signs.Comma ∷ kinds.Name 3 ∷ kinds.Punct signs.Equal ∷ kinds.Punct signs.OpenParen ∷ kinds.Name 0 ∷
    kinds.Punct signs.CloseParen ∷ kinds.Number ∷ kinds.Punct signs.CloseBrace ∷ kinds.Punct signs.Semicolon ∷
    kinds.Punct signs.CloseBrace ∷ kinds.End ∷ []

-- void f(void) { __attribute__((a)) __extension__ int x; }
abbrev pub extension_behind_attribute : List TokenKind
extension_behind_attribute =
    kinds.Keyword words.Void ∷ kinds.Name 0 ∷ kinds.Punct signs.OpenParen ∷ kinds.Keyword words.Void ∷
    kinds.Punct signs.CloseParen ∷ kinds.Punct signs.OpenBrace ∷ kinds.Keyword words.Attribute ∷
    kinds.Punct signs.OpenParen ∷ kinds.Punct signs.OpenParen ∷ kinds.Name 1 ∷ kinds.Punct signs.CloseParen ∷
    kinds.Punct signs.CloseParen ∷ kinds.Keyword words.Extension ∷ kinds.Keyword words.Int ∷ kinds.Name 2 ∷
    kinds.Punct signs.Semicolon ∷ kinds.Punct signs.CloseBrace ∷ kinds.End ∷ []

-- void f(void) { L: __attribute__((a)) int x; }
abbrev pub declaration_behind_label : List TokenKind
declaration_behind_label =
    kinds.Keyword words.Void ∷ kinds.Name 0 ∷ kinds.Punct signs.OpenParen ∷ kinds.Keyword words.Void ∷
    kinds.Punct signs.CloseParen ∷ kinds.Punct signs.OpenBrace ∷ kinds.Name 1 ∷ kinds.Punct signs.Colon ∷
    kinds.Keyword words.Attribute ∷ kinds.Punct signs.OpenParen ∷ kinds.Punct signs.OpenParen ∷ kinds.Name 2 ∷
    kinds.Punct signs.CloseParen ∷ kinds.Punct signs.CloseParen ∷ kinds.Keyword words.Int ∷ kinds.Name 3 ∷
    kinds.Punct signs.Semicolon ∷ kinds.Punct signs.CloseBrace ∷ kinds.End ∷ []

-- int *^496 f();
abbrev pub many_pointers : List TokenKind
many_pointers =
    kinds.Keyword words.Int ∷ replicate 496 (kinds.Punct signs.Star) ++ kinds.Name 0 ∷ kinds.Punct signs.OpenParen ∷
    kinds.Punct signs.CloseParen ∷ kinds.Punct signs.Semicolon ∷ kinds.End ∷ []

-- words that go with none of those before them
abbrev pub NoMixes : Type 0
NoMixes =
    IsRefusedAt float_behind_long 1 no_mix
    × IsRefusedAt int_behind_typedef_name 11 no_mix

-- names that their scope gives another kind already
abbrev pub OtherKinds : Type 0
OtherKinds =
    IsRefusedAt object_named_as_typedef 5 other_kind
    × IsRefusedAt enumerator_named_as_typedef 6 other_kind
    × IsRefusedAt object_named_as_enumerator 11 other_kind

-- assignments whose left side is no unary form
abbrev pub NoUnaryLefts : Type 0
NoUnaryLefts =
    IsRefusedAt sum_assigned 12 no_unary_left
    × IsRefusedAt conditional_assigned 8 no_unary_left
    × IsRefusedAt cast_assigned 13 no_unary_left

-- tokens with which no form of the grammar goes on
abbrev pub Syntaxes : Type 0
Syntaxes =
    IsRefusedAt held_name_enumerated 7 syntax
    × IsRefusedAt cast_incremented 7 syntax
    × IsRefusedAt sizeof_type_indexed 7 syntax
    × IsRefusedAt words_without_type 7 syntax
    × IsRefusedAt dots_behind_attribute 11 syntax
    × IsRefusedAt attribute_without_parameter 11 syntax
    × IsRefusedAt function_behind_comma 6 syntax
    × IsRefusedAt function_of_typedef 6 syntax
    × IsRefusedAt label_behind_attribute 10 syntax
    × IsRefusedAt declaration_in_if 15 syntax
    × IsRefusedAt typedef_hidden_in_its_enum 26 syntax
    × IsRefusedAt extension_behind_attribute 12 syntax
    × IsRefusedAt declaration_behind_label 14 syntax

-- what begins so is a tree, and many tokens stand before its semicolon
abbrev pub TooDeeps : Type 0
TooDeeps = MayBe false too_deep many_pointers 500

-- A name is no keyword and no assignment operator, and few tokens stand before it; and a unit begins with the name
-- of an object, with a typedef name that may be a label, and with an operand and the operator behind it.
abbrev pub WrongRefusals : Type 0
WrongRefusals =
    ¬ IsAllowed false held_name_enumerated 7 no_mix
    × ¬ IsAllowed false held_name_enumerated 7 no_unary_left
    × ¬ IsAllowed false held_name_enumerated 7 too_deep
    × ¬ IsAllowed false held_name_enumerated 1 other_kind
    × ¬ IsAllowed false declaration_in_if 14 syntax
    × ¬ IsAllowed false sum_assigned 10 no_unary_left
    × ¬ IsAllowed false float_behind_long 1 no_unary_left

-- of one source it is said too that no unit begins with the tokens up to the refused one, of whatever height
abbrev pub WholeRefusal : Type 0
WholeRefusal = IsAllowed false float_behind_long 1 no_mix

-- all of these refusals are as said
abbrev pub RefusalsHold : Type 0
RefusalsHold = NoMixes × OtherKinds × NoUnaryLefts × Syntaxes × TooDeeps × WrongRefusals × WholeRefusal
