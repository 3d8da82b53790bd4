-- What each reader inside owes, the readers of blocks and of statements over them owe too; so the items of a unit are
-- refused where they should be.
use Rattle.std.specs.Prelude.{ℕ, suc, ◌<◌, ◌≤◌, false}
use Rattle.c_reading.specs.Tokens.{is_end}
use Rattle.c_reading.specs.Knot.{knot}
use Rattle.c_reading.specs.Stating.{block_with, stmt_with}
use Rattle.c_reading.specs.Items.{items_with}
use Rattle.reading_steps.specs.Steps.{Law, any}
use Rattle.reading_steps.specs.InnerLaws.{InnerLaws, BlockPlaces, StmtPlaces}

-- what each reader inside owes, the reader of blocks over them owes too
abbrev pub BlocksArePlaced : Type 0
BlocksArePlaced = (n : ℕ) → InnerLaws (suc n) (knot n) → BlockPlaces (suc (suc n)) (block_with (knot n))

-- what each reader inside owes, the reader of statements over them owes too
abbrev pub StmtsArePlaced : Type 0
StmtsArePlaced = (n : ℕ) → InnerLaws (suc n) (knot n) → StmtPlaces (suc (suc n)) (stmt_with (knot n))

-- over readers that owe this the items of a unit are refused where they should be, with room for a function at least
abbrev pub ItemsArePlaced : Type 0
ItemsArePlaced =
    (n room : ℕ) → InnerLaws (suc n) (knot n) → room < suc n → 4 ≤ room
    → Law false (items_with (knot n) room) any is_end
