-- Which refusals of a list of tokens are allowed: the token that is refused, and why.
--
-- A tree here is any that the lines of the grammar make, whatever other rule it breaks. A refusal that is allowed
-- need not be at the first token up to which no well-formed unit begins so, but never stands before it.
use Rattle.std.specs.Prelude.{◌≡◌, ℕ, Bool, ◌+◌, ◌≤◌, ◌<◌, All, Contains, true, false, List, ◌++◌, length, take, slice_get, Option, Some}
use Rattle.c_words.specs.declared.kinds.TokenKind.{TokenKind}
use Rattle.c_words.specs.declared.kinds.TokenKind.TheVariants as kinds
use Rattle.c_words.specs.declared.kinds.Keyword.{Keyword}
use Rattle.c_words.specs.declared.kinds.Punct.{Punct}
use Rattle.c_tree.specs.declared.lexeme.Lexeme.{Lexeme}
use Rattle.c_tree.specs.Tree.{Expr, SpecWords, SpecWord, more_words}
use Rattle.c_tree.specs.Unit.{Item, AreTokensOf, IsItem}
use Rattle.c_tree.specs.Levels.{expr_level, is_assignment}
use Rattle.c_tree.specs.Ends.{last_token}
use Rattle.c_specs.specs.Reading.{append_words, pushed, Begins}
use Rattle.c_specs.specs.Faults.{word_token}
use Rattle.typedef_scope.specs.declared.kind.Kind.{Kind}
use Rattle.c_units.specs.HeldScopes.{HeldScopes, file_scope, innermost, may_declare}
use Rattle.c_units.specs.Units.{items_scopes, numbered}
use Rattle.c_units.specs.FirstBad.{BeginsUnit}
use Rattle.refusal_rules.specs.Grammar.{DerivesItem}
use Rattle.refusal_rules.specs.Places.{Place, expression, specifiers, declared, items_inside}

-- why a token is refused
pub data Code : Type 0 where
  syntax : Code
  too_deep : Code
  other_kind : Code
  no_mix : Code
  no_unary_left : Code

-- these are the items of a tree of the grammar whose tokens begin with these
pub record IsTreeFrom (before : List TokenKind) (items : List Item) : Type 0 where
  pub behind : List TokenKind
  pub spelled : AreTokensOf (numbered (before ++ behind)) items
  pub derived : All (DerivesItem (numbered (before ++ behind))) items

-- some tree of the grammar begins with these tokens
abbrev pub BeginsTree : List TokenKind → Type 0
BeginsTree before = (items : List Item) × IsTreeFrom before items

-- well formed but for the height
pub record IsWellFormedAtAnyHeight (wide : Bool) (all : List Lexeme) (items : List Item) : Type 0 where
  pub tokens : AreTokensOf all items
  pub parts : All (IsItem all) items
  pub scopes : HeldScopes
  pub named : items_scopes items (file_scope wide) ≡ Some scopes

-- some unit that is well formed but for its height begins with these tokens
pub record BeginsUnitOfAnyHeight (wide : Bool) (before : List TokenKind) : Type 0 where
  pub behind : List TokenKind
  pub items : List Item
  pub formed : IsWellFormedAtAnyHeight wide (numbered (before ++ behind)) items

-- the parts of a tree, each with the scopes before it
abbrev pub places : Bool → List Item → List Place
places wide items = items_inside items (Some (file_scope wide))

-- all words of specifiers in which no mix begins with those up to one, whose first token this is
pub record HasNoMixAt (wide : Bool) (items : List Item) (at : ℕ) : Type 0 where
  pub scopes : Option HeldScopes
  pub front : SpecWords
  pub word : SpecWord
  pub more : SpecWords
  pub there : Contains (places wide items) (specifiers (append_words front (more_words word more)), scopes)
  pub first : word_token word ≡ at
  pub none : ¬ Begins (pushed front word)

-- this token is the name of a declarator or of an enumerator, in a scope that gives the name another kind
pub record HasOtherKindAt (wide : Bool) (items : List Item) (at : ℕ) : Type 0 where
  pub name : ℕ
  pub kind : Kind
  pub scopes : HeldScopes
  pub there : Contains (places wide items) (declared at name kind, Some scopes)
  pub other : may_declare (innermost scopes) name kind ≡ false

-- an expression that is no unary form ends right before this token
pub record HasNoUnaryBefore (wide : Bool) (items : List Item) (at : ℕ) : Type 0 where
  pub scopes : Option HeldScopes
  pub left : Expr
  pub there : Contains (places wide items) (expression left, scopes)
  pub low : expr_level left < 14
  pub ends : last_token left + 1 ≡ at

-- a keyword that begins a word of specifiers with which no mix begins
pub record MayHaveNoMix (wide : Bool) (tokens : List TokenKind) (at : ℕ) : Type 0 where
  pub keyword : Keyword
  pub is : slice_get tokens at ≡ Some (kinds.Keyword keyword)
  pub items : List Item
  pub tree : IsTreeFrom (take (at + 1) tokens) items
  pub bad : HasNoMixAt wide items at

-- a declared name that its scope gives another kind
pub record MayHaveOtherKind (wide : Bool) (tokens : List TokenKind) (at : ℕ) : Type 0 where
  pub items : List Item
  pub tree : IsTreeFrom (take (at + 1) tokens) items
  pub bad : HasOtherKindAt wide items at

-- an assignment operator behind an expression that is no unary form
pub record MayHaveNoUnaryLeft (wide : Bool) (tokens : List TokenKind) (at : ℕ) : Type 0 where
  pub sign : Punct
  pub is : slice_get tokens at ≡ Some (kinds.Punct sign)
  pub assigns : is_assignment sign ≡ true
  pub items : List Item
  pub tree : IsTreeFrom (take at tokens) items
  pub bad : HasNoUnaryBefore wide items at

-- what a code says of the token that is refused
abbrev pub MayBe : Bool → Code → List TokenKind → ℕ → Type 0
MayBe wide syntax tokens at = Unit {0}
MayBe wide too_deep tokens at = (50 ≤ at) × BeginsTree (take (at + 1) tokens)
MayBe wide other_kind tokens at = MayHaveOtherKind wide tokens at
MayBe wide no_mix tokens at = MayHaveNoMix wide tokens at
MayBe wide no_unary_left tokens at = MayHaveNoUnaryLeft wide tokens at

-- with another code than too deep, the height is not what is wrong
abbrev pub IsNotForHeight : Bool → Code → List TokenKind → ℕ → Type 0
IsNotForHeight wide syntax tokens at = ¬ BeginsUnitOfAnyHeight wide (take (at + 1) tokens)
IsNotForHeight wide too_deep tokens at = Unit {0}
IsNotForHeight wide other_kind tokens at = ¬ BeginsUnitOfAnyHeight wide (take (at + 1) tokens)
IsNotForHeight wide no_mix tokens at = ¬ BeginsUnitOfAnyHeight wide (take (at + 1) tokens)
IsNotForHeight wide no_unary_left tokens at = ¬ BeginsUnitOfAnyHeight wide (take (at + 1) tokens)

-- no well-formed unit begins with the tokens up to this one, some tree begins with those before it, and the code may
-- be its
pub record IsAllowed (wide : Bool) (tokens : List TokenKind) (at : ℕ) (code : Code) : Type 0 where
  pub there : at < length tokens
  pub none : ¬ BeginsUnit wide (take (at + 1) tokens)
  pub before : BeginsTree (take at tokens)
  pub height : IsNotForHeight wide code tokens at
  pub may_be : MayBe wide code tokens at
