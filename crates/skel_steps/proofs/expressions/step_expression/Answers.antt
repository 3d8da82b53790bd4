use Rattle.std.proofs.Common.{sym, ◌∙◌, ap}
use Rattle.std.proofs.lemmas.Result.{on_ok_weaker}
use Rattle.row_rules.specs.RowSteps.Steps as steps
use Rattle.skel_steps.specs.Stepping.{tables_of, state_of}
use Rattle.skel_steps.proofs.expressions.step_expression.Goals as goal

-- the op of a name puts what it is used as on the stack
pub returns-in-Name : goal.returns-in-Name
returns-in-Name c =
    let k = c.args.known.now in
    let st = state_of k c.args.stacks.now in
    on_ok_weaker c.name.result (λ done w shows. done c.in-Name.is_called c.in-Name.name w shows
    ∙ ap (steps.expr_step w st) (sym c.in-Name.is)) c.name.ensures

-- the op of a number puts its fresh value on the stack
pub returns-in-Number : goal.returns-in-Number
returns-in-Number c =
    let k = c.args.known.now in
    let st = state_of k c.args.stacks.now in
    on_ok_weaker c.number.result
    (λ done w shows. done w shows ∙ ap (steps.expr_step w st) (sym c.in-Number.is)) c.number.ensures

-- the op of a character puts its fresh value on the stack
pub returns-in-Char : goal.returns-in-Char
returns-in-Char c =
    let k = c.args.known.now in
    let st = state_of k c.args.stacks.now in
    on_ok_weaker c.put_own.result
    (λ done w shows. done w shows ∙ ap (steps.expr_step w st) (sym c.in-Char.is)) c.put_own.ensures

-- the op of a string puts a fresh place on the stack
pub returns-in-Text : goal.returns-in-Text
returns-in-Text c =
    let k = c.args.known.now in
    let st = state_of k c.args.stacks.now in
    on_ok_weaker c.text.result
    (λ done w shows. done w shows ∙ ap (steps.expr_step w st) (sym c.in-Text.is)) c.text.ensures

-- parentheses leave the stacks as they are
pub returns-in-Paren : goal.returns-in-Paren
returns-in-Paren c =
    let k = c.args.known.now in
    let st = state_of k c.args.stacks.now in
    λ w shows. ap (steps.expr_step w st) (sym c.in-Paren.is)

-- `__extension__` leaves its operand, which is no zero then
pub returns-in-Ext : goal.returns-in-Ext
returns-in-Ext c =
    let k = c.args.known.now in
    let st = state_of k c.args.stacks.now in
    on_ok_weaker c.extension.result
    (λ done w shows. done c.in-Ext.token w shows ∙ ap (steps.expr_step w st) (sym c.in-Ext.is)) c.extension.ensures

-- a comma leaves the value of its last operand
pub returns-in-Comma : goal.returns-in-Comma
returns-in-Comma c =
    let k = c.args.known.now in
    let st = state_of k c.args.stacks.now in
    on_ok_weaker c.comma.result
    (λ done w shows. done c.in-Comma.token w shows ∙ ap (steps.expr_step w st) (sym c.in-Comma.is)) c.comma.ensures

-- the op of an assignment leaves what its place holds
pub returns-in-Assign : goal.returns-in-Assign
returns-in-Assign c =
    let k = c.args.known.now in
    let st = state_of k c.args.stacks.now in
    on_ok_weaker c.assign.result
    (λ done w shows. done c.in-Assign.sign c.in-Assign.token c.in-Assign.first c.in-Assign.last w shows
    ∙ ap (steps.expr_step w st) (sym c.in-Assign.is)) c.assign.ensures

-- the op of `?:` leaves its value
pub returns-in-Cond : goal.returns-in-Cond
returns-in-Cond c =
    let k = c.args.known.now in
    let st = state_of k c.args.stacks.now in
    on_ok_weaker c.condition.result (λ done w shows. done c.in-Cond.first c.in-Cond.last w shows
    ∙ ap (steps.expr_step w st) (sym c.in-Cond.is)) c.condition.ensures

-- the op of a binary operator leaves its value
pub returns-in-Binary : goal.returns-in-Binary
returns-in-Binary c =
    let k = c.args.known.now in
    let st = state_of k c.args.stacks.now in
    on_ok_weaker c.binary_operator.result (λ done w shows. done c.in-Binary.first c.in-Binary.last w shows
    ∙ ap (steps.expr_step w st) (sym c.in-Binary.is)) c.binary_operator.ensures

-- the op of an operator before its operand leaves its value
pub returns-in-Prefix : goal.returns-in-Prefix
returns-in-Prefix c =
    let k = c.args.known.now in
    let st = state_of k c.args.stacks.now in
    on_ok_weaker c.prefix.result
    (λ done w shows. done c.in-Prefix.last w shows ∙ ap (steps.expr_step w st) (sym c.in-Prefix.is)) c.prefix.ensures

-- `++` or `--` behind its operand leaves the value of this
pub returns-in-Post : goal.returns-in-Post
returns-in-Post c =
    let k = c.args.known.now in
    let st = state_of k c.args.stacks.now in
    on_ok_weaker c.post.result (λ done w shows. done c.in-Post.sign c.in-Post.token c.in-Post.first w shows
    ∙ ap (steps.expr_step w st) (sym c.in-Post.is)) c.post.ensures

-- the op of `[ ]` leaves the element
pub returns-in-Index : goal.returns-in-Index
returns-in-Index c =
    let k = c.args.known.now in
    let st = state_of k c.args.stacks.now in
    on_ok_weaker c.index.result (λ done w shows. done c.in-Index.token c.in-Index.first c.in-Index.last w shows
    ∙ ap (steps.expr_step w st) (sym c.in-Index.is)) c.index.ensures

-- an argument is passed: one more of its call is behind
pub returns-in-Arg : goal.returns-in-Arg
returns-in-Arg c =
    let k = c.args.known.now in
    let st = state_of k c.args.stacks.now in
    on_ok_weaker c.pass_argument.result
    (λ done w shows. done (tables_of k) ∙ ap (steps.expr_step w st) (sym c.in-Arg.is)) c.pass_argument.ensures

-- the end of a call leaves the result of its function
pub returns-in-Call : goal.returns-in-Call
returns-in-Call c =
    let k = c.args.known.now in
    let st = state_of k c.args.stacks.now in
    on_ok_weaker c.call.result
    (λ done w shows. done c.in-Call.token w shows ∙ ap (steps.expr_step w st) (sym c.in-Call.is)) c.call.ensures

-- the op of `->` leaves what its pointer points at
pub returns-in-Arrow : goal.returns-in-Arrow
returns-in-Arrow c =
    let k = c.args.known.now in
    let st = state_of k c.args.stacks.now in
    on_ok_weaker c.arrow.result (λ done w shows. done c.in-Arrow.token c.in-Arrow.first c.in-Arrow.last w shows
    ∙ ap (steps.expr_step w st) (sym c.in-Arrow.is)) c.arrow.ensures

-- the op of a member leaves its place
pub returns-in-Dot : goal.returns-in-Dot
returns-in-Dot c =
    let k = c.args.known.now in
    let st = state_of k c.args.stacks.now in
    on_ok_weaker c.member.result (λ done w shows. done c.in-Dot.token c.in-Dot.member w shows
    ∙ ap (steps.expr_step w st) (sym c.in-Dot.is)) c.member.ensures

-- the address of a label puts its fresh value on the stack
pub returns-in-Label : goal.returns-in-Label
returns-in-Label c =
    let k = c.args.known.now in
    let st = state_of k c.args.stacks.now in
    on_ok_weaker c.put_own-in-Label.result
    (λ done w shows. done w shows ∙ ap (steps.expr_step w st) (sym c.in-Label.is)) c.put_own-in-Label.ensures
