use Rattle.std.proofs.Common.{◌≡◌, ◌++◌}
use Rattle.name_rules.specs.Values.{has_of_type}
use Rattle.row_rules.specs.Starting.{candidate_flags}
use Rattle.expr_shapes.specs.ShapeStacks.Views.{state_in}
use Rattle.name_rules.specs.ShapeSteps.State.{value_at}
use Rattle.name_rules.specs.ShapeSteps.Steps.{associations, twice}
use Rattle.unit_starts.specs.Selecting.{selection_row}
use Rattle.unit_starts.proofs.starts.selection.Given as goal

-- invariant of the loop: the flags so far with those of the associations left are the row of the selection
abbrev pub invariant-loop-left : goal.invariant-loop-left
invariant-loop-left l =
    l.row.items ++ candidate_flags l.has_some (value_at (twice l.fn.count) (state_in l.types l.stacks))
    (associations l.left (state_in l.types l.stacks))
    ≡ selection_row l.fn.count (state_in l.types l.stacks)

abbrev pub decreases-loop-left : goal.decreases-loop-left
decreases-loop-left l = l.left
