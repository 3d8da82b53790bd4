use Rattle.std.proofs.Common.{sym, subst}
use Rattle.std.proofs.lemmas.Result.{IfErr-weaker, IfOk-weaker}
use Rattle.c_tree.specs.Unit.{items_of}
use Rattle.cq_prelude.specs.Marking.{IsRuleFault}
use Rattle.cq_prelude.specs.Rules.{AreMarks}
use Rattle.cq_prelude.proofs.RuleLemmas.{are_marks, body_is_first, none_fails, with_body_is}
use Rattle.cq_prelude.proofs.rules.marks_of.Goals as goal

-- where no function has a body and the index words are right, no rule fails
pub returns-in-Ok-clause-rules : goal.returns-in-Ok-clause-rules
returns-in-Ok-clause-rules c =
    let flagged = rw (c.len.ensures, c.as_slice.ensures.value, c.in_ok-found.ensures) at c.in_ok-flags.ensures in
    let marked = rw c.as_slice-3.ensures.value at c.in-Ok.ensures.all in
    let least = rw c.as_slice-2.ensures.value at c.first_body-body.ensures in
    IfOk-weaker c.unless_body.result _ _
    (λ it h. none_fails _
    (items_of c.args.unit.now) _ flagged c.first_body-body.result _ least h.1 marked) c.unless_body.ensures.none

-- the marks of all tokens are those of the unit, where no function has a body
pub returns-in-Ok-clause-marks : goal.returns-in-Ok-clause-marks
returns-in-Ok-clause-marks c =
    let flagged = rw (c.len.ensures, c.as_slice.ensures.value, c.in_ok-found.ensures) at c.in_ok-flags.ensures in
    let marked = rw c.as_slice-3.ensures.value at c.in-Ok.ensures.all in
    IfOk-weaker c.unless_body.result _ _
    (λ it h. subst (AreMarks c.args.tokens.now) (sym h.0)
    (are_marks _ (items_of c.args.unit.now) _ flagged _ marked)) c.unless_body.ensures.none

-- the body of a function is the first fault, where all index words are right
pub returns-in-Ok-clause-first : goal.returns-in-Ok-clause-first
returns-in-Ok-clause-first c =
    let flagged = rw (c.len.ensures, c.as_slice.ensures.value, c.in_ok-found.ensures) at c.in_ok-flags.ensures in
    let marked = rw c.as_slice-3.ensures.value at c.in-Ok.ensures.all in
    let least = rw c.as_slice-2.ensures.value at c.first_body-body.ensures in
    IfErr-weaker c.unless_body.result _ _
    (λ fault h. subst (IsRuleFault c.args.tokens.now (items_of c.args.unit.now)) (sym h.2)
    (body_is_first _ (items_of c.args.unit.now) _ flagged c.first_body-body.result h.0 _ least h.1 marked))
    c.unless_body.ensures.some

-- the first of a body and a bad index word is the first token at which a rule fails
pub returns-clause-first : goal.returns-clause-first
returns-clause-first c =
    let flagged = rw (c.len.ensures, c.as_slice.ensures.value, c.in_ok-found.ensures) at c.in_ok-flags.ensures in
    let first = rw c.as_slice-3.ensures.value at c.in-Err.ensures.first in
    let least = rw c.as_slice-2.ensures.value at c.first_body-body.ensures in
    rw c.earlier.ensures (with_body_is _ (items_of c.args.unit.now) _ flagged c.first_body-body.result _ least first)
