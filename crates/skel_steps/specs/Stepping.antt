-- What the stacks stand for, by what is known.
use Rattle.std.specs.Prelude.{◌≡◌}
use Rattle.row_rules.specs.Worlds.{World}
use Rattle.row_rules.specs.RowSteps.State.{State}
use Rattle.row_world.specs.declared.known.Known.{Known}
use Rattle.row_world.specs.Shown.{Shows}
use Rattle.skel_steps.specs.SkelStacks.Stacked.{Stacked}
use Rattle.skel_steps.specs.SkelStacks.Views.{Tables, tables, state_in}

-- the tables of what is known
abbrev pub tables_of : Known → Tables
tables_of known = tables known.vars.now known.types.now

-- what is on the stacks, with skeletons and types in place of their numbers, by what is known
abbrev pub state_of : Known → Stacked → State
state_of known st = state_in (tables_of known) st

-- the stacks stand for what a step makes of the state before, in each world that is shown
abbrev pub Steps : Known → (World → State → State) → Stacked → Stacked → Type 0
Steps known step old new = (w : World) → Shows known w → state_of known new ≡ step w (state_of known old)
