use Rattle.std.proofs.Common.{◌≡◌, List, refl, sym, ◌∙◌, ap}
use Rattle.name_rules.specs.ShapeSteps.State as states
use Rattle.expr_shapes.specs.ShapeStacks.Stacked.{Stacked}
use Rattle.expr_shapes.specs.ShapeStacks.Views.{state_in, operand_in}
use Rattle.expr_shapes.proofs.ShapeStacks.Lists.{dropped_viewed, put_viewed}
use Rattle.expr_shapes.proofs.shape_stacks.stacks.Stacks.drop_operands.Goals as goal

-- so many operands dropped show so many dropped by the rules
pub returns : goal.returns
returns c =
    λ rows. dropped_viewed rows c.args.count
    (record {
      operands = c.self.inside.operands;
      bases = c.self.inside.bases;
      braces =
          c.self.inside.braces;
      declarations = c.self.inside.declarations;
    }) c.take_off.new.self c.take_off.ensures
    ∙ ap (λ (st : Stacked). states.dropped c.args.count (state_in rows st)) c.self.view_is
