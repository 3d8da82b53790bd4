use Rattle.std.proofs.Common.{sym, ◌∙◌, ap}
use Rattle.std.proofs.lemmas.Result.{on_ok_weaker}
use Rattle.name_rules.specs.ShapeSteps.Steps as steps
use Rattle.expr_shapes.specs.ShapeStacks.Views.{state_in}
use Rattle.name_tables.specs.UnitSpelling.Spelled.{spelling_of}
use Rattle.unit_shapes.specs.Views.{names_in}
use Rattle.unit_shapes.proofs.initialisers.initialiser.Goals as goal

-- a `Value` drops the operand that initialises the name
pub returns-in-Value : goal.returns-in-Value
returns-in-Value c =
    let rows = c.args.types.now in
    let u = spelling_of c.args.spelling.now in
    let s = names_in rows c.args.names.now in
    let st = state_in rows c.args.stacks.now in
    c.drop_operands.ensures rows ∙ ap (steps.init_step u s st) (sym c.in-Value.is)

-- a `Begin` notes where the operands of a braced initialiser begin
pub returns-in-Begin : goal.returns-in-Begin
returns-in-Begin c =
    let rows = c.args.types.now in
    let u = spelling_of c.args.spelling.now in
    let s = names_in rows c.args.names.now in
    let st = state_in rows c.args.stacks.now in
    on_ok_weaker c.begin.result
    (λ done. done rows ∙ ap (steps.init_step u s st) (sym c.in-Begin.is)) c.begin.ensures

-- a `Literal` goes through a list for the type under the operands
pub returns-in-Literal : goal.returns-in-Literal
returns-in-Literal c =
    let rows = c.args.types.now in
    let u = spelling_of c.args.spelling.now in
    let s = names_in rows c.args.names.now in
    let st = state_in rows c.args.stacks.now in
    on_ok_weaker c.enter_literal.result
    (λ done. done rows ∙ ap (steps.init_step u s st) (sym c.in-Literal.is)) c.enter_literal.ensures

-- a `Leaf` is one item more of the innermost list
pub returns-in-Leaf : goal.returns-in-Leaf
returns-in-Leaf c =
    let rows = c.args.types.now in
    let u = spelling_of c.args.spelling.now in
    let s = names_in rows c.args.names.now in
    let st = state_in rows c.args.stacks.now in
    on_ok_weaker c.pass.result
    (λ done. done rows ∙ ap (steps.init_step u s st) (sym c.in-Leaf.is)) c.pass.ensures

-- an `End` drops the operands of the braced initialiser and its list
pub returns-in-End : goal.returns-in-End
returns-in-End c =
    let rows = c.args.types.now in
    let u = spelling_of c.args.spelling.now in
    let s = names_in rows c.args.names.now in
    let st = state_in rows c.args.stacks.now in
    c.leave.ensures rows ∙ ap (steps.init_step u s st) (sym c.in-End.is)

-- a `LiteralEnd` drops the operands and their list, and puts a place of the literal's type in place of the type
pub returns-in-LiteralEnd : goal.returns-in-LiteralEnd
returns-in-LiteralEnd c =
    let rows = c.args.types.now in
    let u = spelling_of c.args.spelling.now in
    let s = names_in rows c.args.names.now in
    let st = state_in rows c.args.stacks.now in
    on_ok_weaker c.leave_literal.result
    (λ done. done rows ∙ ap (steps.init_step u s st) (sym c.in-LiteralEnd.is)) c.leave_literal.ensures
