-- How what is allowed lies to well-formed units: the lines of the grammar ask no more than all rules do, nothing is
-- allowed before the first bad token, and there a refusal is, unless the height alone is wrong.
use Rattle.std.specs.Prelude.{ℕ, Bool, ◌+◌, ◌<◌, All, List, take}
use Rattle.c_words.specs.declared.kinds.TokenKind.{TokenKind}
use Rattle.c_tree.specs.declared.lexeme.Lexeme.{Lexeme}
use Rattle.c_tree.specs.Unit.{Item, IsUnit}
use Rattle.c_units.specs.FirstBad.{BeginsUnit, IsFirstBad}
use Rattle.refusal_rules.specs.Grammar.{DerivesItem}
use Rattle.refusal_rules.specs.Allowed.{Code, syntax, BeginsTree, BeginsUnitOfAnyHeight, IsAllowed}

-- the items of a well-formed unit are those of a tree of the grammar
abbrev pub UnitsAreTrees : Type 0
UnitsAreTrees = (all : List Lexeme) (items : List Item) → IsUnit all items → All (DerivesItem all) items

-- where a well-formed unit begins so, a tree does
abbrev pub UnitsBeginAsTrees : Type 0
UnitsBeginAsTrees = (wide : Bool) (before : List TokenKind) → BeginsUnit wide before → BeginsTree before

-- where a well-formed unit begins so, a unit that is well formed but for its height does
abbrev pub UnitsBeginAtAnyHeight : Type 0
UnitsBeginAtAnyHeight =
    (wide : Bool) (before : List TokenKind) → BeginsUnit wide before → BeginsUnitOfAnyHeight wide before

-- where a well-formed unit begins with the first tokens, no refusal of one of these is allowed
abbrev pub NoneIsEarlier : Type 0
NoneIsEarlier =
    (wide : Bool) (tokens : List TokenKind) (first at : ℕ) (code : Code) → BeginsUnit wide (take first tokens)
    → IsAllowed wide tokens at code
    → ¬ (at < first)

-- the refusal of the first bad token for its syntax is allowed, where the height is not what is wrong
abbrev pub FirstBadIsAllowed : Type 0
FirstBadIsAllowed =
    (wide : Bool) (tokens : List TokenKind) (first : ℕ) → IsFirstBad wide tokens first
    → ¬ BeginsUnitOfAnyHeight wide (take (first + 1) tokens)
    → IsAllowed wide tokens first syntax
