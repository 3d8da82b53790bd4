use Rattle.std.proofs.Common.{sym, ◌∙◌, ap}
use Rattle.std.proofs.lemmas.Result.{on_ok_weaker}
use Rattle.row_rules.specs.RowSteps.Steps as steps
use Rattle.skel_steps.specs.Stepping.{tables_of, state_of}
use Rattle.skel_steps.proofs.steps.step_stacks.Goals as goal

-- an op of expressions steps the stacks as the rules step the state
pub returns-in-Expr : goal.returns-in-Expr
returns-in-Expr c =
    let k = c.args.known.now in
    let st = state_of k c.args.stacks.now in
    on_ok_weaker c.step_expression.result
    (λ done w shows. done w shows ∙ ap (steps.stack_step w st) (sym c.in-Expr.is)) c.step_expression.ensures

-- an op of forms steps the stacks as the rules step the state
pub returns-in-Form : goal.returns-in-Form
returns-in-Form c =
    let k = c.args.known.now in
    let st = state_of k c.args.stacks.now in
    on_ok_weaker c.step_form.result
    (λ done w shows. done w shows ∙ ap (steps.stack_step w st) (sym c.in-Form.is)) c.step_form.ensures

-- an op of initialisers steps the stacks as the rules step the state
pub returns-in-Init : goal.returns-in-Init
returns-in-Init c =
    let k = c.args.known.now in
    let st = state_of k c.args.stacks.now in
    on_ok_weaker c.step_initialiser.result
    (λ done w shows. done w shows ∙ ap (steps.stack_step w st) (sym c.in-Init.is)) c.step_initialiser.ensures

-- an op of specifiers steps the stacks as the rules step the state
pub returns-in-Spec : goal.returns-in-Spec
returns-in-Spec c =
    let k = c.args.known.now in
    let st = state_of k c.args.stacks.now in
    on_ok_weaker c.step_specifier.result
    (λ done w shows. done (tables_of k) ∙ ap (steps.stack_step w st) (sym c.in-Spec.is)) c.step_specifier.ensures

-- an op of declarators steps the stacks as the rules step the state
pub returns-in-Declr : goal.returns-in-Declr
returns-in-Declr c =
    let k = c.args.known.now in
    let st = state_of k c.args.stacks.now in
    on_ok_weaker c.step_declarator.result
    (λ done w shows. done w shows ∙ ap (steps.stack_step w st) (sym c.in-Declr.is)) c.step_declarator.ensures

-- an op of statements steps the stacks as the rules step the state
pub returns-in-Stmt : goal.returns-in-Stmt
returns-in-Stmt c =
    let k = c.args.known.now in
    let st = state_of k c.args.stacks.now in
    λ w shows. c.step_statement.ensures (tables_of k) ∙ ap (steps.stack_step w st) (sym c.in-Stmt.is)
