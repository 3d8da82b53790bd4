-- How many ops a unit's tape has: at most two for each of its tokens, and none for its end.
use Rattle.std.specs.Prelude.{◌+◌, ◌*◌, ◌≤◌, List, length}
use Rattle.c_tree.specs.declared.lexeme.Lexeme.{Lexeme}
use Rattle.c_tree.specs.Unit.{Item, AreTokensOf, IsUnit}
use Rattle.c_tape.specs.Tape.{tape_of}

-- the tape of a well-formed unit has at most two ops for each of its tokens, and none for its end
abbrev pub TapesAreShort : Type 0
TapesAreShort = (all : List Lexeme) (items : List Item) → AreTokensOf all items → IsUnit all items →
    length (tape_of items) + 2 ≤ 2 * length all
