-- Where a list of tokens is refused for its syntax: at the first token up to which no well-formed unit begins so; and
-- with another fault than the height none of any height begins so either.
use Rattle.std.specs.Prelude.{◌≡◌, ℕ, Bool, ◌+◌, List, [], ◌∷◌, ◌++◌, take, Err}
use Rattle.c_words.specs.declared.kinds.TokenKind.{TokenKind}
use Rattle.c_words.specs.declared.kinds.TokenKind.TheVariants as kinds
use Rattle.c_units.specs.Units.{numbered}
use Rattle.c_units.specs.FirstBad.{IsFirstBad}
use Rattle.c_reading.specs.declared.kinds.FaultKind.{FaultKind}
use Rattle.c_reading.specs.declared.kinds.FaultKind.TheVariants.{Unexpected, TooDeep}
use Rattle.c_reading.specs.Knot.{unit_at}
use Rattle.refusal_rules.specs.Allowed.{syntax, BeginsUnitOfAnyHeight, IsAllowed}

-- the last token is the end, as in each list that a lexer makes
abbrev pub IsEnded : List TokenKind → Type 0
IsEnded tokens = (body : List TokenKind) × (tokens ≡ body ++ kinds.End ∷ [])

-- the reader of units refuses this token, for this fault
abbrev pub Refuses : Bool → List TokenKind → FaultKind → ℕ → Type 0
Refuses wide tokens fault at = unit_at wide (numbered tokens) ≡ Err (fault, at)

-- whatever the fault is: some well-formed unit begins with the tokens before the refused one, and none with those up to
-- it
abbrev pub PlaceIsFirst : Type 0
PlaceIsFirst =
    (wide : Bool) (tokens : List TokenKind) (fault : FaultKind) (at : ℕ) → IsEnded tokens → Refuses wide tokens fault at
    → IsFirstBad wide tokens at

-- where the fault is not the height, no unit that is well formed but for its height begins with the tokens up to it
abbrev pub HeightAlone : Type 0
HeightAlone =
    (wide : Bool) (tokens : List TokenKind) (fault : FaultKind) (at : ℕ) → IsEnded tokens → Refuses wide tokens fault at
    → ¬ (fault ≡ TooDeep) → ¬ BeginsUnitOfAnyHeight wide (take (at + 1) tokens)

-- a refusal because no form of the grammar goes on so is one that is allowed for its syntax
abbrev pub SyntaxIsAllowed : Type 0
SyntaxIsAllowed =
    (wide : Bool) (tokens : List TokenKind) (at : ℕ) → IsEnded tokens → Refuses wide tokens Unexpected at
    → IsAllowed wide tokens at syntax
