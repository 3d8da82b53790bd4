use Rattle.std.proofs.Common.{◌≡◌, drop}
use Rattle.name_rules.specs.ShapeSteps.State.{nothing}
use Rattle.name_rules.specs.ShapeSteps.Steps.{run}
use Rattle.expr_shapes.specs.ShapeStacks.Views.{state_in}
use Rattle.name_tables.specs.UnitSpelling.Spelled.{spelling_of}
use Rattle.unit_shapes.specs.Views.{names_in}
use Rattle.c_names.proofs.part.shape_of.Given as goal

-- the stacks so far, run over the ops left, are what nothing run over all ops is
abbrev pub invariant-loop-op : goal.invariant-loop-op
invariant-loop-op l =
    run (spelling_of l.spelling) (names_in l.types l.names) (state_in l.types l.stacks) (drop l.op-index l.ops)
    ≡ run (spelling_of l.spelling) (names_in l.types l.names) nothing l.ops
