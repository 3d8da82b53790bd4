-- Refusals for the height.
use Rattle.std.specs.Prelude.{ℕ, Bool, List}
use Rattle.c_words.specs.declared.kinds.TokenKind.{TokenKind}
use Rattle.c_reading.specs.declared.kinds.FaultKind.TheVariants.{TooDeep}
use Rattle.refusal_rules.specs.Allowed.{too_deep, IsAllowed}
use Rattle.unit_places.specs.Laws.{IsEnded, Refuses}

-- a token that is refused for the height has fifty tokens before it at least, and some tree of the grammar begins with
-- those up to it
abbrev pub OnlyTheHeight : Type 0
OnlyTheHeight =
    (wide : Bool) (tokens : List TokenKind) (at : ℕ) → IsEnded tokens → Refuses wide tokens TooDeep at
    → IsAllowed wide tokens at too_deep
