use Rattle.std.proofs.Common.{Some, sym, ◌∙◌, ap}
use Rattle.std.proofs.lemmas.Result.{on_ok_weaker}
use Rattle.qual_types.specs.Skel.{Skel}
use Rattle.row_rules.specs.Vals as vals
use Rattle.row_rules.specs.RowSteps.Steps as steps
use Rattle.skel_steps.specs.Stepping.{tables_of, state_of}
use Rattle.skel_steps.proofs.initialisers.step_initialiser.Goals as goal

-- an initialising value is dropped
pub returns-in-Value : goal.returns-in-Value
returns-in-Value c =
    let k = c.args.known.now in
    let st = state_of k c.args.stacks.now in
    λ w shows. c.drop_operands.ensures (tables_of k) ∙ ap (steps.init_step w st) (sym c.in-Value.is)

-- the begin of an initialiser in braces notes where its operands begin
pub returns-in-Begin : goal.returns-in-Begin
returns-in-Begin c =
    let k = c.args.known.now in
    let st = state_of k c.args.stacks.now in
    on_ok_weaker c.begin.result
    (λ done w shows. done (tables_of k) ∙ ap (steps.init_step w st) (sym c.in-Begin.is)) c.begin.ensures

-- the op of the rule goes through the initialiser of the name declared last
pub returns-in-Rule : goal.returns-in-Rule
returns-in-Rule c =
    let k = c.args.known.now in
    let st = state_of k c.args.stacks.now in
    on_ok_weaker c.rule.result
    (λ done w shows. done w shows ∙ ap (steps.init_step w st) (sym c.in-Rule.is)) c.rule.ensures

-- the op of a list in braces begins it at the next target
pub returns-in-ListBegin : goal.returns-in-ListBegin
returns-in-ListBegin c =
    let k = c.args.known.now in
    let st = state_of k c.args.stacks.now in
    on_ok_weaker c.begin_list.result
    (λ done w shows. done w shows ∙ ap (steps.init_step w st) (sym c.in-ListBegin.is)) c.begin_list.ensures

-- the op of a member designator names its target
pub returns-in-Member : goal.returns-in-Member
returns-in-Member c =
    let k = c.args.known.now in
    let st = state_of k c.args.stacks.now in
    on_ok_weaker c.designate.result (λ done w shows. done c.in-Member.token w shows
    ∙ ap (steps.init_step w st) (sym c.in-Member.is)) c.designate.ensures

-- the op of an index designator notes it in the list
pub returns-in-Index : goal.returns-in-Index
returns-in-Index c =
    let k = c.args.known.now in
    let st = state_of k c.args.stacks.now in
    on_ok_weaker c.index.result
    (λ done w shows. done k.types.now ∙ ap (steps.init_step w st) (sym c.in-Index.is)) c.index.ensures

-- an item takes the next of the operands that are left
pub returns-in-Leaf : goal.returns-in-Leaf
returns-in-Leaf c =
    let k = c.args.known.now in
    let st = state_of k c.args.stacks.now in
    on_ok_weaker c.take_leaf.result
    (λ done w shows. done (tables_of k) ∙ ap (steps.init_step w st) (sym c.in-Leaf.is)) c.take_leaf.ensures

-- the end of a list leaves it, and passes it as an item of the outer one
pub returns-in-ListEnd : goal.returns-in-ListEnd
returns-in-ListEnd c =
    let k = c.args.known.now in
    let st = state_of k c.args.stacks.now in
    on_ok_weaker c.leave_list.result
    (λ done w shows. done (tables_of k) ∙ ap (steps.init_step w st) (sym c.in-ListEnd.is)) c.leave_list.ensures

-- the end of an initialiser in braces drops its operands
pub returns-in-End : goal.returns-in-End
returns-in-End c =
    let k = c.args.known.now in
    let st = state_of k c.args.stacks.now in
    λ w shows. c.leave.ensures (tables_of k) ∙ ap (steps.init_step w st) (sym c.in-End.is)

-- the end of a compound literal drops its operands and leaves its place
pub returns-in-LiteralEnd : goal.returns-in-LiteralEnd
returns-in-LiteralEnd c =
    let k = c.args.known.now in
    let st = state_of k c.args.stacks.now in
    on_ok_weaker c.leave_literal.result
    (λ done w shows. done k.types.now ∙ ap (steps.init_step w st) (sym c.in-LiteralEnd.is)) c.leave_literal.ensures

-- the op of a compound literal goes through its operands at its fresh place
pub returns-in-Literal : goal.returns-in-Literal
returns-in-Literal c =
    let k = c.args.known.now in
    let st = state_of k c.args.stacks.now in
    on_ok_weaker c.go_through_literal.result (λ done w shows. done k.types.now ∙
    (ap (λ (s : Skel). steps.gone_through (Some (vals.contents s)) (record st { literal = s })) (c.own.ensures w shows)
    ∙ ap (steps.init_step w st) (sym c.in-Literal.is))) c.go_through_literal.ensures
