use Rattle.std.proofs.Common.{◌≡◌, List, []}
use Rattle.name_rules.specs.Values.{Candidate}
use Rattle.name_rules.specs.ShapeSteps.State.{value_at}
use Rattle.name_rules.specs.ShapeSteps.Steps.{twice, associations}
use Rattle.expr_shapes.specs.ShapeStacks.Views.{state_in}
use Rattle.expr_shapes.specs.ShapeValues.Picks.{IsPicked}
use Rattle.expr_shapes.specs.Selecting.{picked_on}
use Rattle.expr_shapes.proofs.picks.selected.Given as goal

-- the candidates so far, with those of the associations left, are those of all associations
abbrev pub invariant-loop-left : goal.invariant-loop-left
invariant-loop-left l =
    (all : List Candidate) × IsPicked l.types all l.picked
    × (picked_on l.has_some (value_at (twice l.fn.count) (state_in l.types l.stacks)) all
    (associations l.left (state_in l.types l.stacks))
    ≡ picked_on l.has_some (value_at (twice l.fn.count) (state_in l.types l.stacks)) []
    (associations l.fn.count (state_in l.types l.stacks)))

abbrev pub decreases-loop-left : goal.decreases-loop-left
decreases-loop-left l = l.left
