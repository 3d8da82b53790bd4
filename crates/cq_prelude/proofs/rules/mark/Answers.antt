use Rattle.std.proofs.Common.{Ok, ap}
use Rattle.cq_prelude.proofs.MarkLemmas.{marks_word}
use Rattle.cq_prelude.proofs.rules.mark.Goals as goal

-- an index word where it may stand, of bytes that say a set, is marked with it
pub returns-in_ok-push-in-Some-clause-right : goal.returns-in_ok-push-in-Some-clause-right
returns-in_ok-push-in-Some-clause-right c _ =
    let placed = rw (c.in-Some.is, c.number.ensures) at c.in_ok-set.ensures.placed in
    let says = rw c.in-Some.is at c.in_ok-set.ensures.says in
    rw (c.in_ok-push-in-Some.ensures.ok, c.as_slice.ensures.value)
    (marks_word _ _ _ _ _ c.requires.marked (c.is_index.ensures.yes c.if-not-is_index.false) placed says)

-- an index word without a set, or where none may stand, is a bad one
pub returns-in-None-clause-bad : goal.returns-in-None-clause-bad
returns-in-None-clause-bad c _ = record {
  index = c.is_index.ensures.yes c.if-not-is_index.false;
  wrong = λ placed set says. c.in_ok-set.ensures.none (ap Ok c.in-None.is) (rw c.number.ensures placed) set says;
}
