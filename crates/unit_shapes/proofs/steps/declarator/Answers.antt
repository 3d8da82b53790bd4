use Rattle.std.proofs.Common.{sym, ◌∙◌, ap}
use Rattle.std.proofs.lemmas.Result.{on_ok_weaker}
use Rattle.name_rules.specs.ShapeSteps.Steps as steps
use Rattle.expr_shapes.specs.ShapeStacks.Views.{state_in}
use Rattle.name_tables.specs.UnitSpelling.Spelled.{spelling_of}
use Rattle.unit_shapes.specs.Views.{names_in}
use Rattle.unit_shapes.proofs.steps.declarator.Goals as goal

-- a `DeclName` notes its token as the name of the innermost declaration
pub returns-in-DeclName : goal.returns-in-DeclName
returns-in-DeclName c =
    let rows = c.args.types.now in
    let u = spelling_of c.args.spelling.now in
    let s = names_in rows c.args.names.now in
    let st = state_in rows c.args.stacks.now in
    on_ok_weaker c.name.result
    (λ done. done rows ∙ ap (steps.declr_step u s st) (sym c.in-DeclName.is)) c.name.ensures

-- a `Param` closes the innermost declaration
pub returns-in-Param : goal.returns-in-Param
returns-in-Param c =
    let rows = c.args.types.now in
    let u = spelling_of c.args.spelling.now in
    let s = names_in rows c.args.names.now in
    let st = state_in rows c.args.stacks.now in
    c.close.ensures rows ∙ ap (steps.declr_step u s st) (sym c.in-Param.is)

-- a `Declare` notes the name of the innermost declaration as the last declared
pub returns-in-Declare : goal.returns-in-Declare
returns-in-Declare c =
    let rows = c.args.types.now in
    let u = spelling_of c.args.spelling.now in
    let s = names_in rows c.args.names.now in
    let st = state_in rows c.args.stacks.now in
    on_ok_weaker c.declare.result
    (λ done. done rows ∙ ap (steps.declr_step u s st) (sym c.in-Declare.is)) c.declare.ensures

-- a `Member` leaves the innermost declaration without a name
pub returns-in-Member : goal.returns-in-Member
returns-in-Member c =
    let rows = c.args.types.now in
    let u = spelling_of c.args.spelling.now in
    let s = names_in rows c.args.names.now in
    let st = state_in rows c.args.stacks.now in
    on_ok_weaker c.leave_name.result
    (λ done. done rows ∙ ap (steps.declr_step u s st) (sym c.in-Member.is)) c.leave_name.ensures

-- a `DeclarationEnd` closes the innermost declaration
pub returns-in-DeclarationEnd : goal.returns-in-DeclarationEnd
returns-in-DeclarationEnd c =
    let rows = c.args.types.now in
    let u = spelling_of c.args.spelling.now in
    let s = names_in rows c.args.names.now in
    let st = state_in rows c.args.stacks.now in
    c.close-in-DeclarationEnd.ensures rows ∙ ap (steps.declr_step u s st) (sym c.in-DeclarationEnd.is)

-- an `AutoEnd` notes the name of the innermost declaration as the last declared
pub returns-in-AutoEnd : goal.returns-in-AutoEnd
returns-in-AutoEnd c =
    let rows = c.args.types.now in
    let u = spelling_of c.args.spelling.now in
    let s = names_in rows c.args.names.now in
    let st = state_in rows c.args.stacks.now in
    on_ok_weaker c.declare-in-AutoEnd.result
    (λ done. done rows ∙ ap (steps.declr_step u s st) (sym c.in-AutoEnd.is)) c.declare-in-AutoEnd.ensures

-- an `OldParam` notes the name of the innermost declaration as the last declared
pub returns-in-OldParam : goal.returns-in-OldParam
returns-in-OldParam c =
    let rows = c.args.types.now in
    let u = spelling_of c.args.spelling.now in
    let s = names_in rows c.args.names.now in
    let st = state_in rows c.args.stacks.now in
    on_ok_weaker c.declare-in-OldParam.result
    (λ done. done rows ∙ ap (steps.declr_step u s st) (sym c.in-OldParam.is)) c.declare-in-OldParam.ensures
