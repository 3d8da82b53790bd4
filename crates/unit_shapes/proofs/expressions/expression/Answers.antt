use Rattle.std.proofs.Common.{refl, sym, ◌∙◌, ap}
use Rattle.std.proofs.lemmas.Result.{on_ok_weaker}
use Rattle.name_rules.specs.ShapeSteps.Steps as steps
use Rattle.expr_shapes.specs.ShapeStacks.Views.{state_in}
use Rattle.name_tables.specs.UnitSpelling.Spelled.{spelling_of}
use Rattle.unit_shapes.specs.Views.{names_in}
use Rattle.unit_shapes.proofs.expressions.expression.Goals as goal

-- a `Name` pushes the shape of its use
pub returns-in-Name : goal.returns-in-Name
returns-in-Name c =
    let rows = c.args.types.now in
    let u = spelling_of c.args.spelling.now in
    let s = names_in rows c.args.names.now in
    let st = state_in rows c.args.stacks.now in
    on_ok_weaker c.name.result
    (λ done. done c.in-Name.is_called c.in-Name.name ∙ ap (steps.expr_step u s st) (sym c.in-Name.is)) c.name.ensures

-- a `Number` pushes a value of the base type, and whether it is spelled `0`
pub returns-in-Number : goal.returns-in-Number
returns-in-Number c =
    let rows = c.args.types.now in
    let u = spelling_of c.args.spelling.now in
    let s = names_in rows c.args.names.now in
    let st = state_in rows c.args.stacks.now in
    on_ok_weaker c.number.result
    (λ done. done u s c.in-Number.token c.is_naught.ensures
    ∙ ap (steps.expr_step u s st) (sym c.in-Number.is)) c.number.ensures

-- a `Char` pushes a value of the base type
pub returns-in-Char : goal.returns-in-Char
returns-in-Char c =
    let rows = c.args.types.now in
    let u = spelling_of c.args.spelling.now in
    let s = names_in rows c.args.names.now in
    let st = state_in rows c.args.stacks.now in
    on_ok_weaker c.plain_operand.result
    (λ done. done u s c.in-Char.token ∙ ap (steps.expr_step u s st) (sym c.in-Char.is)) c.plain_operand.ensures

-- a `Text` pushes a place of the type of texts
pub returns-in-Text : goal.returns-in-Text
returns-in-Text c =
    let rows = c.args.types.now in
    let u = spelling_of c.args.spelling.now in
    let s = names_in rows c.args.names.now in
    let st = state_in rows c.args.stacks.now in
    on_ok_weaker c.text.result
    (λ done. done u s c.in-Text.token ∙ ap (steps.expr_step u s st) (sym c.in-Text.is)) c.text.ensures

-- an `Ext` puts back its operand's shape, no longer as a zero
pub returns-in-Ext : goal.returns-in-Ext
returns-in-Ext c =
    let rows = c.args.types.now in
    let u = spelling_of c.args.spelling.now in
    let s = names_in rows c.args.names.now in
    let st = state_in rows c.args.stacks.now in
    on_ok_weaker c.extension.result
    (λ done. done rows u s c.in-Ext.token ∙ ap (steps.expr_step u s st) (sym c.in-Ext.is)) c.extension.ensures

-- a `Comma` puts the right operand's value in place of both
pub returns-in-Comma : goal.returns-in-Comma
returns-in-Comma c =
    let rows = c.args.types.now in
    let u = spelling_of c.args.spelling.now in
    let s = names_in rows c.args.names.now in
    let st = state_in rows c.args.stacks.now in
    on_ok_weaker c.comma.result
    (λ done. done u s c.in-Comma.token ∙ ap (steps.expr_step u s st) (sym c.in-Comma.is)) c.comma.ensures

-- an `Assign` puts what an assignment to its left operand is in place of both
pub returns-in-Assign : goal.returns-in-Assign
returns-in-Assign c =
    let rows = c.args.types.now in
    let u = spelling_of c.args.spelling.now in
    let s = names_in rows c.args.names.now in
    let st = state_in rows c.args.stacks.now in
    on_ok_weaker c.assign.result
    (λ done. done rows u s c.in-Assign.sign c.in-Assign.token c.in-Assign.first c.in-Assign.last
    ∙ ap (steps.expr_step u s st) (sym c.in-Assign.is)) c.assign.ensures

-- a `Cond` puts the common type of its last two operands in place of all, three or two
pub returns-in-Cond : goal.returns-in-Cond
returns-in-Cond c =
    let rows = c.args.types.now in
    let u = spelling_of c.args.spelling.now in
    let s = names_in rows c.args.names.now in
    let st = state_in rows c.args.stacks.now in
    on_ok_weaker c.condition.result
    (λ done. done u s c.in-Cond.token c.in-Cond.first c.in-Cond.last
    ∙ ap (steps.expr_step u s st) (sym c.in-Cond.is)) c.condition.ensures

-- a `Binary` puts a value of the operator's type in place of both operands
pub returns-in-Binary : goal.returns-in-Binary
returns-in-Binary c =
    let rows = c.args.types.now in
    let u = spelling_of c.args.spelling.now in
    let s = names_in rows c.args.names.now in
    let st = state_in rows c.args.stacks.now in
    on_ok_weaker c.binary.result
    (λ done. done u s c.in-Binary.token c.in-Binary.first c.in-Binary.last
    ∙ ap (steps.expr_step u s st) (sym c.in-Binary.is)) c.binary.ensures

-- a `Prefix` puts what its operator makes of the operand's shape in its place
pub returns-in-Prefix : goal.returns-in-Prefix
returns-in-Prefix c =
    let rows = c.args.types.now in
    let u = spelling_of c.args.spelling.now in
    let s = names_in rows c.args.names.now in
    let st = state_in rows c.args.stacks.now in
    on_ok_weaker c.prefix.result
    (λ done. done u s c.in-Prefix.token c.in-Prefix.last c.in-Prefix.aims
    ∙ ap (steps.expr_step u s st) (sym c.in-Prefix.is)) c.prefix.ensures

-- a `Post` puts its operand's value in its place
pub returns-in-Post : goal.returns-in-Post
returns-in-Post c =
    let rows = c.args.types.now in
    let u = spelling_of c.args.spelling.now in
    let s = names_in rows c.args.names.now in
    let st = state_in rows c.args.stacks.now in
    on_ok_weaker c.post.result
    (λ done. done u s c.in-Post.sign c.in-Post.token c.in-Post.first
    ∙ ap (steps.expr_step u s st) (sym c.in-Post.is)) c.post.ensures

-- an `Index` puts the element's shape in place of both operands
pub returns-in-Index : goal.returns-in-Index
returns-in-Index c =
    let rows = c.args.types.now in
    let u = spelling_of c.args.spelling.now in
    let s = names_in rows c.args.names.now in
    let st = state_in rows c.args.stacks.now in
    on_ok_weaker c.index.result
    (λ done. done u s c.in-Index.token c.in-Index.first c.in-Index.last c.in-Index.aims refl
    ∙ ap (steps.expr_step u s st) (sym c.in-Index.is)) c.index.ensures

-- a `Call` puts a value of the result type in place of the arguments and the called value under them
pub returns-in-Call : goal.returns-in-Call
returns-in-Call c =
    let rows = c.args.types.now in
    let u = spelling_of c.args.spelling.now in
    let s = names_in rows c.args.names.now in
    let st = state_in rows c.args.stacks.now in
    on_ok_weaker c.call.result
    (λ done. done u s c.in-Call.token ∙ ap (steps.expr_step u s st) (sym c.in-Call.is)) c.call.ensures

-- an `Arrow` puts the place that its pointer points at in the pointer's place
pub returns-in-Arrow : goal.returns-in-Arrow
returns-in-Arrow c =
    let rows = c.args.types.now in
    let u = spelling_of c.args.spelling.now in
    let s = names_in rows c.args.names.now in
    let st = state_in rows c.args.stacks.now in
    on_ok_weaker c.arrow.result
    (λ done. done u s c.in-Arrow.token c.in-Arrow.first c.in-Arrow.last c.in-Arrow.aims
    ∙ ap (steps.expr_step u s st) (sym c.in-Arrow.is)) c.arrow.ensures

-- a `Dot` puts the place of the member in place of its struct
pub returns-in-Dot : goal.returns-in-Dot
returns-in-Dot c =
    let rows = c.args.types.now in
    let u = spelling_of c.args.spelling.now in
    let s = names_in rows c.args.names.now in
    let st = state_in rows c.args.stacks.now in
    on_ok_weaker c.dot.result
    (λ done. done c.in-Dot.token c.in-Dot.member ∙ ap (steps.expr_step u s st) (sym c.in-Dot.is)) c.dot.ensures

-- a `Label` pushes a value of type pointer to `void`
pub returns-in-Label : goal.returns-in-Label
returns-in-Label c =
    let rows = c.args.types.now in
    let u = spelling_of c.args.spelling.now in
    let s = names_in rows c.args.names.now in
    let st = state_in rows c.args.stacks.now in
    on_ok_weaker c.label.result
    (λ done. done u s c.in-Label.token ∙ ap (steps.expr_step u s st) (sym c.in-Label.is)) c.label.ensures
