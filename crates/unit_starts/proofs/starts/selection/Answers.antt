use Rattle.std.proofs.Common.{◌<◌, ◌-◌, ◌∷◌, ◌++◌, [], ◌∙◌, ap, List, Bool}
use Rattle.row_rules.specs.Starting.{candidate_flags}
use Rattle.expr_shapes.specs.ShapeStacks.Views.{state_in}
use Rattle.name_rules.specs.ShapeSteps.State.{value_at}
use Rattle.name_rules.specs.ShapeSteps.Steps.{associations, twice}
use Rattle.unit_starts.proofs.Selecting.{flags_next}
use Rattle.unit_starts.proofs.starts.selection.Goals as goal

-- the flag of one association more keeps the row with those still to come that of the selection
pub loop-left-preserved : goal.loop-left-preserved
loop-left-preserved c =
    let st = state_in c.args.types.now c.args.stacks.now in
    let t = value_at (twice c.args.count) st in
    let h = c.has_of_type-has_some.result in
    let front = c.loop-left.row.items in
    let left = c.loop-left.left in
    ap (λ (row : List Bool). row ++ candidate_flags h t (associations (left - 1) st))
    (c.in_ok-push.ensures.items ∙ ap (λ (b : Bool). front ++ b ∷ []) c.is_candidate.ensures)
    ∙ flags_next h t front left st c.loop-left-test.true
    ∙ c.loop-left.invariant
