use Rattle.std.proofs.Common.{◌∙◌, ap}
use Rattle.std.proofs.lemmas.Result.{on_ok_weaker}
use Rattle.name_rules.specs.ShapeSteps.State.{State}
use Rattle.name_rules.specs.ShapeSteps.Steps as steps
use Rattle.unit_shapes.proofs.initialisers.end_list.Goals as goal

-- an inner list that ends is one item more of the list round it
pub returns : goal.returns
returns c =
    let rows = c.args.types.now in
    on_ok_weaker c.pass.result
    (λ passed. passed rows
    ∙ ap (λ (st : State). steps.in_braces steps.with_item st) (c.leave_list.ensures rows)) c.pass.ensures
