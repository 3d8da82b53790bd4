use Rattle.std.proofs.Common.{◌≡◌, ◌∷◌, ◌-◌, ℕ, false, List, Option, drop, length, refl, sym, ◌∙◌, ap}
use Rattle.std.proofs.lemmas.Result.{on_ok_weaker}
use Rattle.type_table.specs.Types.{CType}
use Rattle.name_rules.specs.Values.{a_place}
use Rattle.name_rules.specs.ShapeSteps.State as states
use Rattle.name_rules.specs.ShapeSteps.Steps as steps
use Rattle.expr_shapes.specs.ShapeStacks.Stacked.{Stacked}
use Rattle.expr_shapes.specs.ShapeStacks.Views.{state_in}
use Rattle.expr_shapes.proofs.ShapeStacks.Lists.{left_viewed, set_viewed}
use Rattle.expr_shapes.proofs.shape_stacks.stacks.Stacks.leave.Goals as goal

-- leaving an initialiser in braces drops its operands and its list, as the rules do
pub returns : goal.returns
returns c =
    λ rows. left_viewed rows
    (record {
      operands = c.self.inside.operands;
      bases = c.self.inside.bases;
      braces =
          c.self.inside.braces;
      declarations = c.self.inside.declarations;
    }) c.keep.new.self c.take_off.new.self
    c.take_off-2.new.self
    (c.keep.ensures ∙ ap (λ (n : ℕ). drop (length c.self.inside.operands - n) c.self.inside.operands) c.at-base.ensures)
    c.take_off.ensures c.take_off-2.ensures
    ∙ ap (λ (st : Stacked). steps.braces_left (states.operands_below (state_in rows st)) (state_in rows st))
    c.self.view_is
