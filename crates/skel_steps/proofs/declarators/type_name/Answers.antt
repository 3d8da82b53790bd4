use Rattle.std.proofs.Common.{Option, option_map, ◌∙◌, ap}
use Rattle.std.proofs.lemmas.Result.{on_ok_weaker}
use Rattle.type_table.specs.Types.{CType}
use Rattle.row_rules.specs.RowSteps.State as states
use Rattle.row_rules.specs.RowSteps.Steps as steps
use Rattle.row_world.specs.Shown.{type}
use Rattle.skel_steps.specs.Stepping.{tables_of, state_of}
use Rattle.skel_steps.proofs.declarators.type_name.Goals as goal

-- a type's name closes its declaration and leaves its type as an operand
pub returns : goal.returns
returns c =
    let k = c.args.known.now in
    let st = state_of k c.args.stacks.now in
    on_ok_weaker c.put_type.result (λ put w shows. put (tables_of k) ∙
    (ap (states.operand_put 0 (states.named_type (option_map (type k) c.type_named-ty.result)))
    (c.close.ensures (tables_of k))
    ∙ ap (λ (t : Option CType). states.operand_put 0 (states.named_type t) (steps.closed st))
    (c.type_named-ty.ensures w shows))) c.put_type.ensures
