use Rattle.std.proofs.Common.{◌≡◌, ◌-◌, ◌++◌, List}
use Rattle.row_rules.specs.Worlds.{World}
use Rattle.row_rules.specs.Vals.{Candidate}
use Rattle.row_world.specs.Shown.{Shows}
use Rattle.row_rules.specs.RowSteps.Steps.{selected}
use Rattle.skel_steps.specs.Picks.{IsPickedVal}
use Rattle.skel_steps.specs.Stepping.{state_of}
use Rattle.skel_steps.proofs.picks.selected.Given as goal

-- invariant of the loop: what is kept is of candidates that, with those still to come, are all of the selection
abbrev pub invariant-loop-number : goal.invariant-loop-number
invariant-loop-number l =
    (w : World) → Shows l.known w → (all : List Candidate) × IsPickedVal l.known.vars.now all l.picked
    × (all ++ selected w l.token l.number (l.fn.count - l.number) (state_of l.known l.stacks)
    ≡ selected w l.token 0 l.fn.count (state_of l.known l.stacks))
