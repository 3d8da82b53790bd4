use Rattle.std.proofs.Common.{sym, ◌∙◌, ap}
use Rattle.std.proofs.lemmas.Result.{on_ok_weaker}
use Rattle.row_rules.specs.RowSteps.Steps as steps
use Rattle.skel_steps.specs.Stepping.{tables_of, state_of}
use Rattle.skel_steps.proofs.forms.step_form.Goals as goal

-- the op of a cast leaves its fresh value
pub returns-in-Cast : goal.returns-in-Cast
returns-in-Cast c =
    let k = c.args.known.now in
    let st = state_of k c.args.stacks.now in
    on_ok_weaker c.cast.result
    (λ done w shows. done c.in-Cast.last w shows ∙ ap (steps.form_step w st) (sym c.in-Cast.is)) c.cast.ensures

-- `sizeof` leaves its fresh value for its operand or type
pub returns-in-Sizeof : goal.returns-in-Sizeof
returns-in-Sizeof c =
    let k = c.args.known.now in
    let st = state_of k c.args.stacks.now in
    on_ok_weaker c.put_own.result
    (λ done w shows. done w shows ∙ ap (steps.form_step w st) (sym c.in-Sizeof.is)) c.put_own.ensures

-- a statement in an expression leaves the value of its last statement, or a fresh one
pub returns-in-StmtExpr : goal.returns-in-StmtExpr
returns-in-StmtExpr c =
    let k = c.args.known.now in
    let st = state_of k c.args.stacks.now in
    on_ok_weaker c.statements.result
    (λ done w shows. done w shows ∙ ap (steps.form_step w st) (sym c.in-StmtExpr.is)) c.statements.ensures

-- `va_arg` leaves its fresh value for its list and type
pub returns-in-VaArg : goal.returns-in-VaArg
returns-in-VaArg c =
    let k = c.args.known.now in
    let st = state_of k c.args.stacks.now in
    on_ok_weaker c.put_own-in-VaArg.result
    (λ done w shows. done w shows ∙ ap (steps.form_step w st) (sym c.in-VaArg.is)) c.put_own-in-VaArg.ensures

-- `va_start` leaves its fresh value for its two operands
pub returns-in-VaStart : goal.returns-in-VaStart
returns-in-VaStart c =
    let k = c.args.known.now in
    let st = state_of k c.args.stacks.now in
    on_ok_weaker c.put_own-in-VaStart.result
    (λ done w shows. done w shows ∙ ap (steps.form_step w st) (sym c.in-VaStart.is)) c.put_own-in-VaStart.ensures

-- `va_copy` leaves its fresh value for its two operands
pub returns-in-VaCopy : goal.returns-in-VaCopy
returns-in-VaCopy c =
    let k = c.args.known.now in
    let st = state_of k c.args.stacks.now in
    on_ok_weaker c.put_own-in-VaCopy.result
    (λ done w shows. done w shows ∙ ap (steps.form_step w st) (sym c.in-VaCopy.is)) c.put_own-in-VaCopy.ensures

-- a member in an offset leaves the stacks as they are
pub returns-in-OffsetMember : goal.returns-in-OffsetMember
returns-in-OffsetMember c =
    let k = c.args.known.now in
    let st = state_of k c.args.stacks.now in
    λ w shows. ap (steps.form_step w st) (sym c.in-OffsetMember.is)

-- an index in an offset drops its value
pub returns-in-OffsetIndex : goal.returns-in-OffsetIndex
returns-in-OffsetIndex c =
    let k = c.args.known.now in
    let st = state_of k c.args.stacks.now in
    λ w shows. c.drop_operands.ensures (tables_of k) ∙ ap (steps.form_step w st) (sym c.in-OffsetIndex.is)

-- `offsetof` leaves its fresh value for its type
pub returns-in-Offset : goal.returns-in-Offset
returns-in-Offset c =
    let k = c.args.known.now in
    let st = state_of k c.args.stacks.now in
    on_ok_weaker c.put_own-in-Offset.result
    (λ done w shows. done w shows ∙ ap (steps.form_step w st) (sym c.in-Offset.is)) c.put_own-in-Offset.ensures

-- a test whether types are compatible leaves its fresh value for both
pub returns-in-Compat : goal.returns-in-Compat
returns-in-Compat c =
    let k = c.args.known.now in
    let st = state_of k c.args.stacks.now in
    on_ok_weaker c.put_own-in-Compat.result
    (λ done w shows. done w shows ∙ ap (steps.form_step w st) (sym c.in-Compat.is)) c.put_own-in-Compat.ensures

-- the control of a selection leaves its value where it is
pub returns-in-Control : goal.returns-in-Control
returns-in-Control c =
    let k = c.args.known.now in
    let st = state_of k c.args.stacks.now in
    λ w shows. ap (steps.form_step w st) (sym c.in-Control.is)

-- the missing type of a `default` association is put as none
pub returns-in-NoType : goal.returns-in-NoType
returns-in-NoType c =
    let k = c.args.known.now in
    let st = state_of k c.args.stacks.now in
    on_ok_weaker c.put_type.result
    (λ done w shows. done (tables_of k) ∙ ap (steps.form_step w st) (sym c.in-NoType.is)) c.put_type.ensures

-- the op of a choice leaves what is picked
pub returns-in-Choose : goal.returns-in-Choose
returns-in-Choose c =
    let k = c.args.known.now in
    let st = state_of k c.args.stacks.now in
    on_ok_weaker c.choose.result
    (λ done w shows. done w shows ∙ ap (steps.form_step w st) (sym c.in-Choose.is)) c.choose.ensures

-- the op of a selection by a type leaves what is picked
pub returns-in-Generic : goal.returns-in-Generic
returns-in-Generic c =
    let k = c.args.known.now in
    let st = state_of k c.args.stacks.now in
    on_ok_weaker c.select.result
    (λ done w shows. done w shows ∙ ap (steps.form_step w st) (sym c.in-Generic.is)) c.select.ensures
