use Rattle.std.proofs.Common.{sym, ◌∙◌, ap}
use Rattle.std.proofs.lemmas.Result.{on_ok_weaker}
use Rattle.row_rules.specs.RowSteps.Steps as steps
use Rattle.skel_steps.specs.Stepping.{tables_of, state_of}
use Rattle.skel_steps.proofs.declarators.step_declarator.Goals as goal

-- the name of a declarator is noted in its open declaration
pub returns-in-DeclName : goal.returns-in-DeclName
returns-in-DeclName c =
    let k = c.args.known.now in
    let st = state_of k c.args.stacks.now in
    on_ok_weaker c.name.result
    (λ done w shows. done (tables_of k) ∙ ap (steps.declr_step w st) (sym c.in-DeclName.is)) c.name.ensures

-- the begin of a list of parameters leaves the stacks as they are
pub returns-in-ParamsBegin : goal.returns-in-ParamsBegin
returns-in-ParamsBegin c =
    let k = c.args.known.now in
    let st = state_of k c.args.stacks.now in
    λ w shows. ap (steps.declr_step w st) (sym c.in-ParamsBegin.is)

-- the end of a parameter closes its declaration
pub returns-in-Param : goal.returns-in-Param
returns-in-Param c =
    let k = c.args.known.now in
    let st = state_of k c.args.stacks.now in
    λ w shows. c.close.ensures (tables_of k) ∙ ap (steps.declr_step w st) (sym c.in-Param.is)

-- the end of a list of parameters leaves the stacks as they are
pub returns-in-ParamsEnd : goal.returns-in-ParamsEnd
returns-in-ParamsEnd c =
    let k = c.args.known.now in
    let st = state_of k c.args.stacks.now in
    λ w shows. ap (steps.declr_step w st) (sym c.in-ParamsEnd.is)

-- a pointer of a declarator leaves the stacks as they are
pub returns-in-Pointer : goal.returns-in-Pointer
returns-in-Pointer c =
    let k = c.args.known.now in
    let st = state_of k c.args.stacks.now in
    λ w shows. ap (steps.declr_step w st) (sym c.in-Pointer.is)

-- an array of a declarator leaves the stacks as they are
pub returns-in-Array : goal.returns-in-Array
returns-in-Array c =
    let k = c.args.known.now in
    let st = state_of k c.args.stacks.now in
    λ w shows. ap (steps.declr_step w st) (sym c.in-Array.is)

-- a function of a declarator leaves the stacks as they are
pub returns-in-Function : goal.returns-in-Function
returns-in-Function c =
    let k = c.args.known.now in
    let st = state_of k c.args.stacks.now in
    λ w shows. ap (steps.declr_step w st) (sym c.in-Function.is)

-- a name that is declared is the last one of its declaration
pub returns-in-Declare : goal.returns-in-Declare
returns-in-Declare c =
    let k = c.args.known.now in
    let st = state_of k c.args.stacks.now in
    on_ok_weaker c.declare.result
    (λ done w shows. done (tables_of k) ∙ ap (steps.declr_step w st) (sym c.in-Declare.is)) c.declare.ensures

-- a member that is declared leaves the name of its declaration
pub returns-in-Member : goal.returns-in-Member
returns-in-Member c =
    let k = c.args.known.now in
    let st = state_of k c.args.stacks.now in
    on_ok_weaker c.leave_name.result
    (λ done w shows. done (tables_of k) ∙ ap (steps.declr_step w st) (sym c.in-Member.is)) c.leave_name.ensures

-- the name of a type closes its declaration and leaves the type
pub returns-in-TypeName : goal.returns-in-TypeName
returns-in-TypeName c =
    let k = c.args.known.now in
    let st = state_of k c.args.stacks.now in
    on_ok_weaker c.type_name.result
    (λ done w shows. done w shows ∙ ap (steps.declr_step w st) (sym c.in-TypeName.is)) c.type_name.ensures

-- the end of a declaration closes it
pub returns-in-DeclarationEnd : goal.returns-in-DeclarationEnd
returns-in-DeclarationEnd c =
    let k = c.args.known.now in
    let st = state_of k c.args.stacks.now in
    λ w shows. c.close-in-DeclarationEnd.ensures (tables_of k) ∙ ap (steps.declr_step w st) (sym c.in-DeclarationEnd.is)

-- the begin of an initialiser that gives its type leaves the stacks as they are
pub returns-in-AutoBegin : goal.returns-in-AutoBegin
returns-in-AutoBegin c =
    let k = c.args.known.now in
    let st = state_of k c.args.stacks.now in
    λ w shows. ap (steps.declr_step w st) (sym c.in-AutoBegin.is)

-- the end of an initialiser that gives its type declares the name
pub returns-in-AutoEnd : goal.returns-in-AutoEnd
returns-in-AutoEnd c =
    let k = c.args.known.now in
    let st = state_of k c.args.stacks.now in
    on_ok_weaker c.declare-in-AutoEnd.result
    (λ done w shows. done (tables_of k) ∙ ap (steps.declr_step w st) (sym c.in-AutoEnd.is)) c.declare-in-AutoEnd.ensures

-- an identifier of a list leaves the stacks as they are
pub returns-in-Identifier : goal.returns-in-Identifier
returns-in-Identifier c =
    let k = c.args.known.now in
    let st = state_of k c.args.stacks.now in
    λ w shows. ap (steps.declr_step w st) (sym c.in-Identifier.is)

-- a parameter behind a list of identifiers is declared as the last name
pub returns-in-OldParam : goal.returns-in-OldParam
returns-in-OldParam c =
    let k = c.args.known.now in
    let st = state_of k c.args.stacks.now in
    on_ok_weaker c.declare-in-OldParam.result (λ done w shows. done (tables_of k)
    ∙ ap (steps.declr_step w st) (sym c.in-OldParam.is)) c.declare-in-OldParam.ensures
