-- A group in which brackets match is completed by its open brackets, from the inside; attributes end before each token
-- that is none.
use Rattle.std.specs.Prelude.{ℕ, Bool}
use Rattle.c_reading.specs.Tokens.{is_open_paren, is_semicolon, group_at, attrs_at}
use Rattle.reading_steps.specs.Steps.{Law, any}

-- a group in which brackets match is completed by its open brackets, from the inside
abbrev pub GroupsAreCompleted : Type 0
GroupsAreCompleted = (keep : Bool) → Law keep group_at is_open_paren any

-- attributes end before each token that is none
abbrev pub AttrsArePlaced : Type 0
AttrsArePlaced = (keep : Bool) (room : ℕ) → Law keep (attrs_at room) any is_semicolon
