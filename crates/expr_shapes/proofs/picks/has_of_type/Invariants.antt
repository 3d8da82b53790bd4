use Rattle.std.proofs.Common.{◌≡◌}
use Rattle.name_rules.specs.Values.{has_of_type}
use Rattle.name_rules.specs.ShapeSteps.State.{value_at}
use Rattle.name_rules.specs.ShapeSteps.Steps.{twice, associations}
use Rattle.expr_shapes.specs.ShapeStacks.Views.{state_in}
use Rattle.expr_shapes.proofs.picks.has_of_type.Given as goal

-- some association of all is for the control's type where one of those left is
abbrev pub invariant-loop-left : goal.invariant-loop-left
invariant-loop-left l =
    has_of_type (value_at (twice l.fn.count) (state_in l.types l.stacks))
    (associations l.fn.count (state_in l.types l.stacks))
    ≡ has_of_type (value_at (twice l.fn.count) (state_in l.types l.stacks))
    (associations l.left (state_in l.types l.stacks))

abbrev pub decreases-loop-left : goal.decreases-loop-left
decreases-loop-left l = l.left
