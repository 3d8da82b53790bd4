-- The law of refusals for the height.
use Rattle.std.specs.Prelude.{◌≡◌, ℕ, ◌+◌, ◌*◌, ◌≤◌, Bool, List, Err}
use Rattle.c_tree.specs.declared.lexeme.Lexeme.{Lexeme}
use Rattle.c_reading.specs.declared.kinds.FaultKind.TheVariants.{TooDeep}
use Rattle.c_reading.specs.Reading.{IsNumbered}
use Rattle.room_laws.specs.Rooms.{unit_of}

-- with much room a token is refused for the height only behind many
abbrev pub TooDeepIsLate : Type 0
TooDeepIsLate =
    (wide : Bool) (room : ℕ) (all : List Lexeme) → IsNumbered all → (at : ℕ) → unit_of room wide all ≡ Err (TooDeep, at)
    → room ≤ 8 * at + 21
