use Rattle.row_rules.specs.Worlds.{World}
use Rattle.row_world.specs.Shown.{Shows}
use Rattle.skel_steps.specs.Stepping.{state_of}
use Rattle.unit_system.proofs.UnitRows.Picking.{Picked}
use Rattle.unit_system.proofs.unit_rows.picks.selection_rows.Given as goal

abbrev pub invariant-loop-number : goal.invariant-loop-number
invariant-loop-number l = (w : World) → Shows l.known w →
    Picked w l.token l.fn.count l.number (state_of l.known l.stacks) l.initial.graph l.graph
