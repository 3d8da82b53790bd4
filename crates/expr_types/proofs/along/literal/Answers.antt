use Rattle.std.proofs.Common.{ℕ, Option, ◌∙◌, ap}
use Rattle.type_table.specs.Types.{CType}
use Rattle.name_rules.specs.Values.{a_place}
use Rattle.name_rules.specs.ShapeSteps.State.{type_at}
use Rattle.expr_shapes.specs.ShapeStacks.Views.{state_in}
use Rattle.expr_types.proofs.along.literal.Goals as goal

-- the shape of a compound literal is a place, of the type that lies under the values on the stack
pub returns : goal.returns
returns c =
    let rows = c.args.types.now in
    let st = state_in rows c.args.stacks.now in
    ap (λ (t : Option CType). a_place t)
    (c.type_at.ensures rows ∙ ap (λ (n : ℕ). type_at n st) (c.depth_below.ensures rows))
