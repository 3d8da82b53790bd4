use Rattle.std.proofs.Common.{◌≡◌, ◌∷◌, ◌-◌, ℕ, false, List, Option, drop, length, refl, sym, ◌∙◌, ap}
use Rattle.std.proofs.lemmas.Result.{on_ok_weaker}
use Rattle.type_table.specs.Types.{CType}
use Rattle.name_rules.specs.Values.{a_place}
use Rattle.name_rules.specs.ShapeSteps.State as states
use Rattle.name_rules.specs.ShapeSteps.Steps as steps
use Rattle.expr_shapes.specs.ShapeStacks.Stacked.{Stacked}
use Rattle.expr_shapes.specs.ShapeStacks.Views.{state_in}
use Rattle.expr_shapes.proofs.ShapeStacks.Lists.{left_viewed, set_viewed}
use Rattle.expr_shapes.proofs.shape_stacks.stacks.Stacks.leave_literal.Goals as goal

-- leaving a compound literal puts a place of its type where that type was
pub returns : goal.returns
returns c =
    on_ok_weaker c.put.result (λ put rows. put rows
    ∙ ap (λ (t : Option CType). states.operand_put 1 (states.expression (a_place t) false)
    (state_in rows c.leave.new.self)) (c.type_at-ty.ensures rows)
    ∙ ap (λ (st : states.State). states.operand_put 1 (states.expression (a_place (states.type_at 0 st)) false) st)
    (c.leave.ensures rows)) c.put.ensures
