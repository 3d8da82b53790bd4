use Rattle.std.proofs.Common.{sym, ◌∙◌, ap}
use Rattle.std.proofs.lemmas.Result.{on_ok_weaker}
use Rattle.name_rules.specs.ShapeSteps.Steps as steps
use Rattle.expr_shapes.specs.ShapeStacks.Views.{state_in}
use Rattle.unit_shapes.proofs.steps.specifier.Goals as goal

-- a `SpecsEnd` opens a declaration
pub returns-in-SpecsEnd : goal.returns-in-SpecsEnd
returns-in-SpecsEnd c =
    let rows = c.args.types.now in
    on_ok_weaker c.open.result
    (λ opened. opened rows ∙ ap (steps.spec_step (state_in rows c.args.stacks.now)) (sym c.in-SpecsEnd.is))
    c.open.ensures

-- a `TypeEnd` drops the type on top
pub returns-in-TypeEnd : goal.returns-in-TypeEnd
returns-in-TypeEnd c =
    let rows = c.args.types.now in
    c.drop_operands.ensures rows ∙ ap (steps.spec_step (state_in rows c.args.stacks.now)) (sym c.in-TypeEnd.is)
