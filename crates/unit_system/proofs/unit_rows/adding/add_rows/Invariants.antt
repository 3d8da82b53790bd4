use Rattle.std.proofs.Common.{take}
use Rattle.row_rules.specs.Worlds.{World}
use Rattle.row_world.specs.Shown.{Shows}
use Rattle.skel_steps.specs.Stepping.{state_of}
use Rattle.unit_system.proofs.UnitRows.Looping.{Reached}
use Rattle.unit_system.proofs.unit_rows.adding.add_rows.Given as goal

abbrev pub invariant-loop-op : goal.invariant-loop-op
invariant-loop-op l = (w : World) → Shows l.known w →
    Reached w l.initial.graph l.graph (state_of l.known l.stacks) (take l.op-index l.tape)
