-- Where a list of tokens that is no unit goes wrong: at the first token up to which no well-formed unit begins so.
use Rattle.std.specs.Prelude.{ℕ, Bool, ◌<◌, ◌+◌, List, ◌++◌, length, take}
use Rattle.c_words.specs.declared.kinds.TokenKind.{TokenKind}
use Rattle.c_tree.specs.Unit.{Item}
use Rattle.c_units.specs.Units.{IsWellFormed, numbered}

-- some well-formed unit begins with these tokens
pub record BeginsUnit (wide : Bool) (before : List TokenKind) : Type 0 where
  pub behind : List TokenKind
  pub items : List Item
  pub formed : IsWellFormed wide (numbered (before ++ behind)) items

-- a well-formed unit begins with the tokens before this one, and none with those up to it
pub record IsFirstBad (wide : Bool) (kinds : List TokenKind) (at : ℕ) : Type 0 where
  pub there : at < length kinds
  pub before : BeginsUnit wide (take at kinds)
  pub none : ¬ BeginsUnit wide (take (at + 1) kinds)
