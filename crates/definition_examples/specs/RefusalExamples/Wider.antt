-- Small sources of wider C that are refused, each with the token that is refused first and why. The trees were made
-- from the sources by a program outside the repository.
use Rattle.std.specs.Prelude.{ℕ, true, ◌<◌, List, [], ◌∷◌, take}
use Rattle.c_words.specs.declared.kinds.TokenKind.{TokenKind}
use Rattle.c_words.specs.declared.kinds.TokenKind.TheVariants as kinds
use Rattle.c_words.specs.declared.kinds.Keyword.TheVariants as words
use Rattle.c_words.specs.declared.kinds.Punct.TheVariants as signs
use Rattle.c_units.specs.FirstBad.{BeginsUnit}
use Rattle.refusal_rules.specs.Allowed.{Code, syntax, other_kind, no_mix, no_unary_left, BeginsTree, MayBe, IsAllowed}
use Rattle.definition_examples.specs.RefusalExamples.Refusals.{IsRefusedAt}

-- A unit of wider C begins with the tokens before this one, so that no refusal of an earlier token is allowed; a tree
-- begins with them too, and the code may be that of this token. That no unit begins with the tokens up to it is not
-- said here.
pub record IsWideRefusedAt (tokens : List TokenKind) (at : ℕ) (code : Code) : Type 0 where
  pub unit : BeginsUnit true (take at tokens)
  pub tree : BeginsTree (take at tokens)
  pub may_be : MayBe true code tokens at
  pub earlier : (n : ℕ) (other : Code) → IsAllowed true tokens n other → ¬ (n < at)

-- int f(a);
abbrev pub identifiers_declared : List TokenKind
identifiers_declared =
    kinds.Keyword words.Int ∷ kinds.Name 0 ∷ kinds.Punct signs.OpenParen ∷ kinds.Name 1 ∷
    kinds.Punct signs.CloseParen ∷ kinds.Punct signs.Semicolon ∷ kinds.End ∷ []

-- void f(void) { __auto_type a = 1, b = 2; }
abbrev pub two_autos : List TokenKind
two_autos =
    kinds.Keyword words.Void ∷ kinds.Name 0 ∷ kinds.Punct signs.OpenParen ∷ kinds.Keyword words.Void ∷
    kinds.Punct signs.CloseParen ∷ kinds.Punct signs.OpenBrace ∷ kinds.Keyword words.AutoType ∷ kinds.Name 1 ∷
    kinds.Punct signs.Equal ∷ kinds.Number ∷ kinds.Punct signs.Comma ∷ kinds.Name 2 ∷ kinds.Punct signs.Equal ∷
    kinds.Number ∷ kinds.Punct signs.Semicolon ∷ kinds.Punct signs.CloseBrace ∷ kinds.End ∷ []

-- typeof() x;
abbrev pub nothing_in_typeof : List TokenKind
nothing_in_typeof =
    kinds.Keyword words.Typeof ∷ kinds.Punct signs.OpenParen ∷ kinds.Punct signs.CloseParen ∷ kinds.Name 0 ∷
    kinds.Punct signs.Semicolon ∷ kinds.End ∷ []

-- void f(void) { ; __label__ a; }
abbrev pub labels_behind_statement : List TokenKind
labels_behind_statement =
    kinds.Keyword words.Void ∷ kinds.Name 0 ∷ kinds.Punct signs.OpenParen ∷ kinds.Keyword words.Void ∷
    kinds.Punct signs.CloseParen ∷ kinds.Punct signs.OpenBrace ∷ kinds.Punct signs.Semicolon ∷
    kinds.Keyword words.LabelWord ∷ kinds.Name 1 ∷ kinds.Punct signs.Semicolon ∷ kinds.Punct signs.CloseBrace ∷
    kinds.End ∷ []

-- void f(void) { goto *; }
abbrev pub goto_nothing : List TokenKind
goto_nothing =
    kinds.Keyword words.Void ∷ kinds.Name 0 ∷ kinds.Punct signs.OpenParen ∷ kinds.Keyword words.Void ∷
    kinds.Punct signs.CloseParen ∷ kinds.Punct signs.OpenBrace ∷ kinds.Keyword words.Goto ∷ kinds.Punct signs.Star ∷
    kinds.Punct signs.Semicolon ∷ kinds.Punct signs.CloseBrace ∷ kinds.End ∷ []

-- int f(a) int a; ;
abbrev pub semicolon_among_parameters : List TokenKind
semicolon_among_parameters =
    kinds.Keyword words.Int ∷ kinds.Name 0 ∷ kinds.Punct signs.OpenParen ∷ kinds.Name 1 ∷
    kinds.Punct signs.CloseParen ∷ kinds.Keyword words.Int ∷ kinds.Name 1 ∷ kinds.Punct signs.Semicolon ∷
    kinds.Punct signs.Semicolon ∷ kinds.End ∷ []

-- typedef int T; int f(a, T) int a; {}
abbrev pub typedef_as_identifier : List TokenKind
typedef_as_identifier =
    kinds.Keyword words.Typedef ∷ kinds.Keyword words.Int ∷ kinds.Name 0 ∷ kinds.Punct signs.Semicolon ∷
    kinds.Keyword words.Int ∷ kinds.Name 1 ∷ kinds.Punct signs.OpenParen ∷ kinds.Name 2 ∷ kinds.Punct signs.Comma ∷
    kinds.Name 0 ∷ kinds.Punct signs.CloseParen ∷ kinds.Keyword words.Int ∷ kinds.Name 2 ∷
    kinds.Punct signs.Semicolon ∷ kinds.Punct signs.OpenBrace ∷ kinds.Punct signs.CloseBrace ∷ kinds.End ∷ []

-- int a[] = { [1 ...] = 1 };
abbrev pub range_without_end : List TokenKind
range_without_end =
    kinds.Keyword words.Int ∷ kinds.Name 0 ∷ kinds.Punct signs.OpenBracket ∷ kinds.Punct signs.CloseBracket ∷
    kinds.Punct signs.Equal ∷ kinds.Punct signs.OpenBrace ∷ kinds.Punct signs.OpenBracket ∷ kinds.Number ∷
    kinds.Punct signs.Ellipsis ∷ kinds.Punct signs.CloseBracket ∷ kinds.Punct signs.Equal ∷ kinds.Number ∷
    kinds.Punct signs.CloseBrace ∷ kinds.Punct signs.Semicolon ∷ kinds.End ∷ []

-- struct s { int m; } v = { .m: 1 };
abbrev pub two_designators : List TokenKind
two_designators =
    kinds.Keyword words.Struct ∷ kinds.Name 0 ∷ kinds.Punct signs.OpenBrace ∷ kinds.Keyword words.Int ∷ kinds.Name 1 ∷
    kinds.Punct signs.Semicolon ∷ kinds.Punct signs.CloseBrace ∷ kinds.Name 2 ∷ kinds.Punct signs.Equal ∷
    kinds.Punct signs.OpenBrace ∷ kinds.Punct signs.Dot ∷ kinds.Name 1 ∷ kinds.Punct signs.Colon ∷ kinds.Number ∷
    kinds.Punct signs.CloseBrace ∷ kinds.Punct signs.Semicolon ∷ kinds.End ∷ []

-- int x; int typeof(x) y;
abbrev pub typeof_behind_int : List TokenKind
typeof_behind_int =
    kinds.Keyword words.Int ∷ kinds.Name 0 ∷ kinds.Punct signs.Semicolon ∷ kinds.Keyword words.Int ∷
    kinds.Keyword words.Typeof ∷ kinds.Punct signs.OpenParen ∷ kinds.Name 0 ∷ kinds.Punct signs.CloseParen ∷
    kinds.Name 1 ∷ kinds.Punct signs.Semicolon ∷ kinds.End ∷ []

-- _Atomic(int) int x;
abbrev pub int_behind_atomic : List TokenKind
int_behind_atomic =
    kinds.Keyword words.AtomicType ∷ kinds.Punct signs.OpenParen ∷ kinds.Keyword words.Int ∷
    kinds.Punct signs.CloseParen ∷ kinds.Keyword words.Int ∷ kinds.Name 0 ∷ kinds.Punct signs.Semicolon ∷ kinds.End ∷ []

-- int _Complex _Complex a;
abbrev pub two_complexes : List TokenKind
two_complexes =
    kinds.Keyword words.Int ∷ kinds.Keyword words.AnyComplex ∷ kinds.Keyword words.AnyComplex ∷ kinds.Name 0 ∷
    kinds.Punct signs.Semicolon ∷ kinds.End ∷ []

-- void f(void) { enum { a }; __auto_type a = 1; }
abbrev pub auto_named_as_enumerator : List TokenKind
auto_named_as_enumerator =
    kinds.Keyword words.Void ∷ kinds.Name 0 ∷ kinds.Punct signs.OpenParen ∷ kinds.Keyword words.Void ∷
    kinds.Punct signs.CloseParen ∷ kinds.Punct signs.OpenBrace ∷ kinds.Keyword words.Enum ∷
    kinds.Punct signs.OpenBrace ∷ kinds.Name 1 ∷ kinds.Punct signs.CloseBrace ∷ kinds.Punct signs.Semicolon ∷
    kinds.Keyword words.AutoType ∷ kinds.Name 1 ∷ kinds.Punct signs.Equal ∷ kinds.Number ∷
    kinds.Punct signs.Semicolon ∷ kinds.Punct signs.CloseBrace ∷ kinds.End ∷ []

-- int f(a) int a; enum { a }; { }
abbrev pub enumerator_named_as_parameter : List TokenKind
enumerator_named_as_parameter =
    kinds.Keyword words.Int ∷ kinds.Name 0 ∷ kinds.Punct signs.OpenParen ∷ kinds.Name 1 ∷
    kinds.Punct signs.CloseParen ∷ kinds.Keyword words.Int ∷ kinds.Name 1 ∷ kinds.Punct signs.Semicolon ∷
    kinds.Keyword words.Enum ∷ kinds.Punct signs.OpenBrace ∷ kinds.Name 1 ∷ kinds.Punct signs.CloseBrace ∷
    kinds.Punct signs.Semicolon ∷ kinds.Punct signs.OpenBrace ∷ kinds.Punct signs.CloseBrace ∷ kinds.End ∷ []

-- int x; int a[] = { [1 + x = 2 ... 3] = 1 };
abbrev pub begin_of_range_assigned : List TokenKind
begin_of_range_assigned =
    kinds.Keyword words.Int ∷ kinds.Name 0 ∷ kinds.Punct signs.Semicolon ∷ kinds.Keyword words.Int ∷ kinds.Name 1 ∷
    kinds.Punct signs.OpenBracket ∷ kinds.Punct signs.CloseBracket ∷ kinds.Punct signs.Equal ∷
    kinds.Punct signs.OpenBrace ∷ kinds.Punct signs.OpenBracket ∷ kinds.Number ∷ kinds.Punct signs.Plus ∷
    kinds.Name 0 ∷ kinds.Punct signs.Equal ∷ kinds.Number ∷ kinds.Punct signs.Ellipsis ∷ kinds.Number ∷
    kinds.Punct signs.CloseBracket ∷ kinds.Punct signs.Equal ∷ kinds.Number ∷ kinds.Punct signs.CloseBrace ∷
    kinds.Punct signs.Semicolon ∷ kinds.End ∷ []

-- int x; int a[] = { [0 ... 1 + x = 2] = 1 };
abbrev pub end_of_range_assigned : List TokenKind
end_of_range_assigned =
    kinds.Keyword words.Int ∷ kinds.Name 0 ∷ kinds.Punct signs.Semicolon ∷ kinds.Keyword words.Int ∷ kinds.Name 1 ∷
    kinds.Punct signs.OpenBracket ∷ kinds.Punct signs.CloseBracket ∷ kinds.Punct signs.Equal ∷
    kinds.Punct signs.OpenBrace ∷ kinds.Punct signs.OpenBracket ∷ kinds.Number ∷ kinds.Punct signs.Ellipsis ∷
    kinds.Number ∷ kinds.Punct signs.Plus ∷ kinds.Name 0 ∷ kinds.Punct signs.Equal ∷ kinds.Number ∷
    kinds.Punct signs.CloseBracket ∷ kinds.Punct signs.Equal ∷ kinds.Number ∷ kinds.Punct signs.CloseBrace ∷
    kinds.Punct signs.Semicolon ∷ kinds.End ∷ []

-- int f(a) int a; { }
abbrev pub identifiers_in_narrow_c : List TokenKind
identifiers_in_narrow_c =
    kinds.Keyword words.Int ∷ kinds.Name 0 ∷ kinds.Punct signs.OpenParen ∷ kinds.Name 1 ∷
    kinds.Punct signs.CloseParen ∷ kinds.Keyword words.Int ∷ kinds.Name 1 ∷ kinds.Punct signs.Semicolon ∷
    kinds.Punct signs.OpenBrace ∷ kinds.Punct signs.CloseBrace ∷ kinds.End ∷ []

-- units of wider C that no form goes on with
abbrev pub Syntaxes : Type 0
Syntaxes =
    IsWideRefusedAt identifiers_declared 5 syntax
    × IsWideRefusedAt two_autos 10 syntax
    × IsWideRefusedAt nothing_in_typeof 2 syntax
    × IsWideRefusedAt labels_behind_statement 7 syntax
    × IsWideRefusedAt goto_nothing 8 syntax
    × IsWideRefusedAt semicolon_among_parameters 8 syntax
    × IsWideRefusedAt typedef_as_identifier 9 syntax
    × IsWideRefusedAt range_without_end 9 syntax
    × IsWideRefusedAt two_designators 12 syntax

-- units of wider C in which no mix of specifiers goes on
abbrev pub NoMixes : Type 0
NoMixes =
    IsWideRefusedAt typeof_behind_int 4 no_mix
    × IsWideRefusedAt int_behind_atomic 4 no_mix
    × IsWideRefusedAt two_complexes 2 no_mix

-- units of wider C in which a name has another kind
abbrev pub OtherKinds : Type 0
OtherKinds =
    IsWideRefusedAt auto_named_as_enumerator 12 other_kind
    × IsWideRefusedAt enumerator_named_as_parameter 10 other_kind

-- units of wider C in which an assignment has no unary form on its left
abbrev pub NoUnaryLefts : Type 0
NoUnaryLefts =
    IsWideRefusedAt begin_of_range_assigned 13 no_unary_left
    × IsWideRefusedAt end_of_range_assigned 15 no_unary_left

-- The identifier of a list is refused where the source is not read as wider C, and not where it is: there a unit begins
-- with it and the parenthesis behind it.
abbrev pub Narrow : Type 0
Narrow = IsRefusedAt identifiers_in_narrow_c 3 syntax × ¬ IsAllowed true identifiers_declared 3 syntax

-- every example of wider C is refused as its table says
abbrev pub WiderHold : Type 0
WiderHold = Syntaxes × NoMixes × OtherKinds × NoUnaryLefts × Narrow
