use Rattle.std.proofs.Common.{sym, ◌∙◌, ap}
use Rattle.std.proofs.lemmas.Result.{on_ok_weaker}
use Rattle.name_rules.specs.ShapeSteps.Steps as steps
use Rattle.expr_shapes.specs.ShapeStacks.Views.{state_in}
use Rattle.name_tables.specs.UnitSpelling.Spelled.{spelling_of}
use Rattle.unit_shapes.specs.Views.{names_in}
use Rattle.unit_shapes.proofs.expressions.form.Goals as goal

-- a `Cast` puts a value of the type named in place of that and the operand; a zero cast to plain `void *` stays one
pub returns-in-Cast : goal.returns-in-Cast
returns-in-Cast c =
    let rows = c.args.types.now in
    let u = spelling_of c.args.spelling.now in
    let s = names_in rows c.args.names.now in
    let st = state_in rows c.args.stacks.now in
    on_ok_weaker c.cast.result
    (λ done. done u s c.in-Cast.token c.in-Cast.last ∙ ap (steps.form_step u s st) (sym c.in-Cast.is)) c.cast.ensures

-- a `Sizeof` puts a value of the base type in place of its operand
pub returns-in-Sizeof : goal.returns-in-Sizeof
returns-in-Sizeof c =
    let rows = c.args.types.now in
    let u = spelling_of c.args.spelling.now in
    let s = names_in rows c.args.names.now in
    let st = state_in rows c.args.stacks.now in
    on_ok_weaker c.sizeof.result
    (λ done. done u s c.in-Sizeof.token ∙ ap (steps.form_step u s st) (sym c.in-Sizeof.is)) c.sizeof.ensures

-- a `StmtExpr` puts the value of its last statement in its place, or pushes one of `void`
pub returns-in-StmtExpr : goal.returns-in-StmtExpr
returns-in-StmtExpr c =
    let rows = c.args.types.now in
    let u = spelling_of c.args.spelling.now in
    let s = names_in rows c.args.names.now in
    let st = state_in rows c.args.stacks.now in
    on_ok_weaker c.statements.result
    (λ done. done u s c.in-StmtExpr.token ∙ ap (steps.form_step u s st) (sym c.in-StmtExpr.is)) c.statements.ensures

-- a `VaArg` puts a value of the type on top in place of that and the list
pub returns-in-VaArg : goal.returns-in-VaArg
returns-in-VaArg c =
    let rows = c.args.types.now in
    let u = spelling_of c.args.spelling.now in
    let s = names_in rows c.args.names.now in
    let st = state_in rows c.args.stacks.now in
    on_ok_weaker c.va_arg.result
    (λ done. done rows u s c.in-VaArg.token c.in-VaArg.last
    ∙ ap (steps.form_step u s st) (sym c.in-VaArg.is)) c.va_arg.ensures

-- a `VaStart` puts a value of `void` in place of its two operands
pub returns-in-VaStart : goal.returns-in-VaStart
returns-in-VaStart c =
    let rows = c.args.types.now in
    let u = spelling_of c.args.spelling.now in
    let s = names_in rows c.args.names.now in
    let st = state_in rows c.args.stacks.now in
    on_ok_weaker c.variadic.result
    (λ done. done u s c.in-VaStart.token c.in-VaStart.last
    ∙ ap (steps.form_step u s st) (sym c.in-VaStart.is)) c.variadic.ensures

-- a `VaCopy` puts a value of `void` in place of the two lists
pub returns-in-VaCopy : goal.returns-in-VaCopy
returns-in-VaCopy c =
    let rows = c.args.types.now in
    let u = spelling_of c.args.spelling.now in
    let s = names_in rows c.args.names.now in
    let st = state_in rows c.args.stacks.now in
    on_ok_weaker c.variadic-in-VaCopy.result
    (λ done. done u s c.in-VaCopy.token c.in-VaCopy.last
    ∙ ap (steps.form_step u s st) (sym c.in-VaCopy.is)) c.variadic-in-VaCopy.ensures

-- an `OffsetMember` puts the member's type in place of the type on top
pub returns-in-OffsetMember : goal.returns-in-OffsetMember
returns-in-OffsetMember c =
    let rows = c.args.types.now in
    let u = spelling_of c.args.spelling.now in
    let s = names_in rows c.args.names.now in
    let st = state_in rows c.args.stacks.now in
    on_ok_weaker c.offset_member.result
    (λ done. done c.in-OffsetMember.token
    ∙ ap (steps.form_step u s st) (sym c.in-OffsetMember.is)) c.offset_member.ensures

-- an `OffsetIndex` puts the element's type in place of the index and the type under it
pub returns-in-OffsetIndex : goal.returns-in-OffsetIndex
returns-in-OffsetIndex c =
    let rows = c.args.types.now in
    let u = spelling_of c.args.spelling.now in
    let s = names_in rows c.args.names.now in
    let st = state_in rows c.args.stacks.now in
    on_ok_weaker c.offset_index.result
    (λ done. done u s c.in-OffsetIndex.token
    ∙ ap (steps.form_step u s st) (sym c.in-OffsetIndex.is)) c.offset_index.ensures

-- an `Offset` puts a value of the base type in place of the type on top
pub returns-in-Offset : goal.returns-in-Offset
returns-in-Offset c =
    let rows = c.args.types.now in
    let u = spelling_of c.args.spelling.now in
    let s = names_in rows c.args.names.now in
    let st = state_in rows c.args.stacks.now in
    on_ok_weaker c.offset.result
    (λ done. done u s c.in-Offset.token ∙ ap (steps.form_step u s st) (sym c.in-Offset.is)) c.offset.ensures

-- a `Compat` puts a value of the base type in place of the two types
pub returns-in-Compat : goal.returns-in-Compat
returns-in-Compat c =
    let rows = c.args.types.now in
    let u = spelling_of c.args.spelling.now in
    let s = names_in rows c.args.names.now in
    let st = state_in rows c.args.stacks.now in
    on_ok_weaker c.compat.result
    (λ done. done u s c.in-Compat.token ∙ ap (steps.form_step u s st) (sym c.in-Compat.is)) c.compat.ensures

-- a `NoType` pushes the name of no type
pub returns-in-NoType : goal.returns-in-NoType
returns-in-NoType c =
    let rows = c.args.types.now in
    let u = spelling_of c.args.spelling.now in
    let s = names_in rows c.args.names.now in
    let st = state_in rows c.args.stacks.now in
    on_ok_weaker c.no_type.result
    (λ done. done rows u s ∙ ap (steps.form_step u s st) (sym c.in-NoType.is)) c.no_type.ensures

-- a `Choose` puts what is picked of the two operands in their place
pub returns-in-Choose : goal.returns-in-Choose
returns-in-Choose c =
    let rows = c.args.types.now in
    let u = spelling_of c.args.spelling.now in
    let s = names_in rows c.args.names.now in
    let st = state_in rows c.args.stacks.now in
    on_ok_weaker c.choose.result
    (λ done. done u s c.in-Choose.token ∙ ap (steps.form_step u s st) (sym c.in-Choose.is)) c.choose.ensures

-- a `Generic` puts what its associations select by the control in place of all of them and the control
pub returns-in-Generic : goal.returns-in-Generic
returns-in-Generic c =
    let rows = c.args.types.now in
    let u = spelling_of c.args.spelling.now in
    let s = names_in rows c.args.names.now in
    let st = state_in rows c.args.stacks.now in
    on_ok_weaker c.select.result
    (λ done. done u s c.in-Generic.token ∙ ap (steps.form_step u s st) (sym c.in-Generic.is)) c.select.ensures
