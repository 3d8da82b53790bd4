use Rattle.std.proofs.Common.{false, ◌∙◌, if◌then◌else◌}
use Rattle.std.proofs.lemmas.Result.{on_ok_weaker}
use Rattle.row_rules.specs.Vals as vals
use Rattle.row_rules.specs.RowSteps.State as states
use Rattle.row_rules.specs.RowSteps.Steps as steps
use Rattle.skel_steps.specs.Stepping.{tables_of, state_of}
use Rattle.skel_steps.proofs.operators.index.Goals as goal

-- an index puts an element of the vector, or what the reference points at, in place of both operands
pub returns : goal.returns
returns c =
    let k = c.args.known.now in
    let st = state_of k c.args.stacks.now in
    let place = c.indexed-place.ensures ∙
    (λ i. if vals.is_ref (c.value_at-first.ensures i) then c.value_at-first.ensures i
    else c.value_at-second.ensures i) in
    on_ok_weaker c.put.result (λ put token first last w shows.
    let is = c.is_vector_index-is_vector.ensures w shows ∙
    (λ i. vals.is_vector_index w.spelling.wide (c.value_at-first.ensures i) (c.value_at-second.ensures i)) in
    put (tables_of k) ∙
    (λ i. states.operand_put 2 (states.expression
    ((c.element-val.ensures k ∙
    (λ j. if is j then c.val_at-vector.ensures k.types.now j else vals.a_place (place j))) i) false)
    ((c.carry.ensures (tables_of k) ∙
    (λ j. steps.carrying c.args.aims (place j) st)) i))) c.put.ensures
