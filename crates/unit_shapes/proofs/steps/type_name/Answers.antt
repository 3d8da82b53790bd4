use Rattle.std.proofs.Common.{Option, ◌∙◌, ap}
use Rattle.std.proofs.lemmas.Result.{on_ok_weaker}
use Rattle.type_table.specs.Types.{CType}
use Rattle.name_rules.specs.Spellings.{place}
use Rattle.name_rules.specs.Uses.{type_named_at}
use Rattle.name_rules.specs.ShapeSteps.State as states
use Rattle.expr_shapes.specs.ShapeStacks.Views.{state_in}
use Rattle.name_tables.specs.UnitSpelling.Spelled.{spelling_of}
use Rattle.unit_shapes.specs.Views.{names_in}
use Rattle.unit_shapes.proofs.steps.type_name.Goals as goal

-- a type's name closes its declaration and pushes the type that is named at its first token
pub returns : goal.returns
returns c =
    let rows = c.args.types.now in
    let named = (names_in rows c.args.names.now).type_names in
    let at = place (spelling_of c.args.spelling.now) c.args.first in
    let found = c.type_named-ty.ensures ∙ ap (type_named_at named) c.place.ensures in
    on_ok_weaker c.named.result
    (λ done. done rows
    ∙ ap (λ (t : Option CType). states.operand_put 0 (states.named_type t) (state_in rows c.close.new.self)) found
    ∙ ap (states.operand_put 0 (states.named_type (type_named_at named at))) (c.close.ensures rows))
    c.named.ensures
