use Rattle.std.proofs.Common.{Ok, ap}
use Rattle.std.proofs.lemmas.Option.{IfSome_then}
use Rattle.std.proofs.lemmas.Result.{IfOk-weaker}
use Rattle.cq_prelude.proofs.Groups.{parts_of, says_different, says_of, set_of}
use Rattle.cq_prelude.proofs.word.numbers_of.Goals as goal

pub returns-in_default-clause-none : goal.returns-in_default-clause-none
returns-in_default-clause-none c _ word h =
    let parts = parts_of _ word h in
    c.behind_front.ensures.none c.in_default.is parts.0 parts.1

-- the numbers of the groups, sorted, are the set that the index word says
pub returns-in-Some-2-clause-some : goal.returns-in-Some-2-clause-some
returns-in-Some-2-clause-some c =
    let says = rw c.in-Some-2.is at c.in_ok-numbers.ensures.some in
    IfOk-weaker c.ascending.result _ _
    (λ found h. IfSome_then found h
    (λ set arranged. set_of _ _ _ _ c.in-Some.ensures.some says arranged)) c.ascending.ensures.some

-- where the numbers of the groups are not different, the word says no set
pub returns-in-Some-2-clause-none : goal.returns-in-Some-2-clause-none
returns-in-Some-2-clause-none c none word h =
    let says = rw c.in-Some-2.is at c.in_ok-numbers.ensures.some in
    c.ascending.ensures.none none (says_different _ _ _ word c.in-Some.ensures.some says h)

pub returns-in-None-clause-none : goal.returns-in-None-clause-none
returns-in-None-clause-none c _ word h =
    c.in_ok-numbers.ensures.none (ap Ok c.in-None.is) word (says_of _ _ word c.in-Some.ensures.some h)
