use Rattle.std.proofs.Common.{◌≡◌, ◌∷◌, List, refl, sym, ◌∙◌, ap}
use Rattle.std.proofs.lemmas.Result.{on_ok_weaker}
use Rattle.expr_shapes.specs.declared.shape_stacks.stacks.Operand.{Operand}
use Rattle.name_rules.specs.ShapeSteps.State as states
use Rattle.expr_shapes.specs.ShapeStacks.Stacked.{Stacked}
use Rattle.expr_shapes.specs.ShapeStacks.Views.{state_in, operand_in}
use Rattle.expr_shapes.proofs.ShapeStacks.Lists.{dropped_viewed, put_viewed}
use Rattle.expr_shapes.proofs.shape_stacks.stacks.Stacks.put_operand.Goals as goal

-- an operand put in place of so many is put so by the rules
pub returns : goal.returns
returns c =
    on_ok_weaker c.push.result (λ pushed rows.
    put_viewed rows c.args.count
    (record {
      operands = c.self.inside.operands;
      bases = c.self.inside.bases;
      braces =
          c.self.inside.braces;
      declarations = c.self.inside.declarations;
    }) c.args.it.now c.push.new.self
    (pushed ∙ ap (λ (os : List Operand). c.args.it.now ∷ os) c.take_off.ensures)
    ∙ ap (λ (st : Stacked). states.operand_put c.args.count (operand_in rows c.args.it.now) (state_in rows st))
    c.self.view_is) c.push.ensures.pushed
