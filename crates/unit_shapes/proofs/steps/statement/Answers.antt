use Rattle.std.proofs.Common.{sym, ◌∙◌, ap}
use Rattle.name_rules.specs.ShapeSteps.Steps as steps
use Rattle.expr_shapes.specs.ShapeStacks.Views.{state_in}
use Rattle.unit_shapes.proofs.steps.statement.Goals as goal

-- a `Loud` drops the value on top
pub returns-in-Loud : goal.returns-in-Loud
returns-in-Loud c =
    let rows = c.args.types.now in
    c.drop_operands.ensures rows ∙ ap (steps.stmt_step (state_in rows c.args.stacks.now)) (sym c.in-Loud.is)

-- a `Pop` drops the value on top
pub returns-in-Pop : goal.returns-in-Pop
returns-in-Pop c =
    let rows = c.args.types.now in
    c.drop_operands-in-Pop.ensures rows ∙ ap (steps.stmt_step (state_in rows c.args.stacks.now)) (sym c.in-Pop.is)

-- a `Return` drops its value
pub returns-in-Return : goal.returns-in-Return
returns-in-Return c =
    let rows = c.args.types.now in
    c.drop_operands-in-Return.ensures rows
    ∙ ap (steps.stmt_step (state_in rows c.args.stacks.now)) (sym c.in-Return.is)
