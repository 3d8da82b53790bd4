use Rattle.std.proofs.Common.{◌≡◌, ◌∷◌, ◌-◌, ℕ, false, List, Option, drop, length, refl, sym, ◌∙◌, ap}
use Rattle.std.proofs.lemmas.Result.{on_ok_weaker}
use Rattle.type_table.specs.Types.{CType}
use Rattle.name_rules.specs.Values.{a_place}
use Rattle.name_rules.specs.ShapeSteps.State as states
use Rattle.name_rules.specs.ShapeSteps.Steps as steps
use Rattle.expr_shapes.specs.ShapeStacks.Stacked.{Stacked}
use Rattle.expr_shapes.specs.ShapeStacks.Views.{state_in}
use Rattle.expr_shapes.proofs.ShapeStacks.Lists.{left_viewed, set_viewed}
use Rattle.expr_shapes.proofs.shape_stacks.stacks.Stacks.enter_literal.Goals as goal

-- the list of a compound literal is gone through for the type that lies under its operands
pub returns : goal.returns
returns c =
    on_ok_weaker c.enter.result (λ entered rows. entered rows
    ∙ ap (λ (t : Option CType). steps.within (states.whole t) (state_in rows c.args.self.now))
    (c.type_at-ty.ensures rows ∙
    ap (λ (n : ℕ). states.type_at n (state_in rows c.args.self.now)) (c.depth_below.ensures rows))) c.enter.ensures
