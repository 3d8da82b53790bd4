use Rattle.std.proofs.Common.{◌≡◌, ℕ, Option, ◌∙◌, ap, subst}
use Rattle.std.proofs.lemmas.Result.{on_ok_weaker}
use Rattle.name_rules.specs.Spellings.{Place}
use Rattle.name_rules.specs.Values.{Shape}
use Rattle.expr_shapes.specs.ShapeValues.Views.{shape_in}
use Rattle.name_rules.specs.ShapeSteps.State.{State}
use Rattle.name_rules.specs.ShapeSteps.Steps.{step}
use Rattle.expr_shapes.specs.ShapeStacks.Views.{state_in}
use Rattle.name_tables.specs.PlaceMap.Values.{or_else}
use Rattle.name_tables.specs.UnitSpelling.Spelled.{spelling_of}
use Rattle.unit_shapes.specs.Views.{names_in}
use Rattle.expr_types.specs.Along.{op_shape, keyed, first_at}
use Rattle.expr_types.specs.Keys.{op_key}
use Rattle.expr_types.specs.Views.{found_at}
use Rattle.expr_types.proofs.along.pass.Goals as goal

-- at each place: what was found before the op, or else the shape that the op ends, if its key is there
pub returns-clause-ended : goal.returns-clause-ended
returns-clause-ended c =
    let rows = c.args.types.now in
    let u = spelling_of c.args.spelling.now in
    let before = state_in rows c.args.stacks.now in
    let op = c.args.op.now in
    let known : Place → Option Shape = λ at. found_at rows c.args.found.now at in
    on_ok_weaker c.add.result (λ added at. added at ∙ ap (λ (key : Option ℕ). or_else (known at)
    (first_at (keyed u key (shape_in rows c.ended-shape.result)) at)) c.key.ensures
    ∙ ap (λ (it : Shape). or_else (known at) (first_at (keyed u (op_key op) it) at))
    (c.ended-shape.ensures before c.literal-literal.ensures) ∙ ap (λ (st : State). or_else (known at)
    (first_at (keyed u (op_key op) (op_shape before st op)) at)) (subst (λ names. state_in rows c.step.new.stacks
    ≡ step u (names_in rows names) before op) c.names.ensures c.in_ok-step.ensures)) c.add.ensures
