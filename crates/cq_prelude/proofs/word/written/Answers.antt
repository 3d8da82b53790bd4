use Rattle.std.proofs.Common.{rules, ◌∙◌, ap, subst, ℕ, List, take, add-one, arith}
use borrow.Author.Tests.{tests}
use Rattle.std.specs.Slice.Iter.{split_rest, split_done, split_callee}
use Rattle.std.specs.List.{AllZip, slice_split}
use Rattle.std.proofs.lemmas.Iterator.Splits.{YieldsList-from_slice_split}
use Rattle.std.proofs.lemmas.Iterator.Consumers.{YieldsList-turn, YieldsList-end}
use Rattle.std.proofs.lemmas.List.{length_push, take_all}
use Rattle.cq_prelude.specs.Written.{IsWritten, is_low_line}
use Rattle.cq_prelude.proofs.Groups.{more_written, one_written}
use Rattle.cq_prelude.proofs.word.written.Goals as goal

-- a group that says a number keeps the numbers those of the groups so far
pub loop-group-preserved : goal.loop-group-preserved
loop-group-preserved c =
    let turn = YieldsList-turn
    (YieldsList-from_slice_split _ is_low_line c.args.groups.now
    (ap split_rest c.into_iter-group-iterator.ensures.into_iter_gives ∙ c.split-group-items.ensures.rest)
    (ap split_done c.into_iter-group-iterator.ensures.into_iter_gives ∙ c.split-group-items.ensures.done)
    (ap split_callee c.into_iter-group-iterator.ensures.into_iter_gives ∙ c.split-group-items.ensures.closure)
    (λ x b q k. search (rules, tests)))
    c.loop-group.yielded _ c.loop-group.yielded_by _ _ c.in-Some.group c.in-Some.is c.next.ensures.steps in
    let all = more_written _ _ _ _ _ turn.0 turn.1 c.loop-group.invariant c.in-Some-number.ensures.some in
    rw (length_push, add-one, c.in_ok-push-in-Some-number.ensures.items) all

-- where a group says no number, no numbers are said by all groups
pub returns-in-None-number-clause-none : goal.returns-in-None-number-clause-none
returns-in-None-number-clause-none c _ ns all =
    let turn = YieldsList-turn
    (YieldsList-from_slice_split _ is_low_line c.args.groups.now
    (ap split_rest c.into_iter-group-iterator.ensures.into_iter_gives ∙ c.split-group-items.ensures.rest)
    (ap split_done c.into_iter-group-iterator.ensures.into_iter_gives ∙ c.split-group-items.ensures.done)
    (ap split_callee c.into_iter-group-iterator.ensures.into_iter_gives ∙ c.split-group-items.ensures.closure)
    (λ x b q k. search (rules, tests)))
    c.loop-group.yielded _ c.loop-group.yielded_by _ _ c.in-Some.group c.in-Some.is c.next.ensures.steps in
    let one = one_written _ ns _ _ all turn.0 turn.1 in
    c.number.ensures.none c.in-None-number.is one.0 one.1

-- behind the last group the numbers are those that all groups say
pub returns-clause-some : goal.returns-clause-some
returns-clause-some c =
    let end = YieldsList-end
    (YieldsList-from_slice_split _ is_low_line c.args.groups.now
    (ap split_rest c.into_iter-group-iterator.ensures.into_iter_gives ∙ c.split-group-items.ensures.rest)
    (ap split_done c.into_iter-group-iterator.ensures.into_iter_gives ∙ c.split-group-items.ensures.done)
    (ap split_callee c.into_iter-group-iterator.ensures.into_iter_gives ∙ c.split-group-items.ensures.closure)
    (λ x b q k. search (rules, tests)))
    c.loop-group.yielded _ c.loop-group.yielded_by _ _ c.in-None.is c.next.ensures.steps in
    subst (λ (groups : List (List ℕ)). AllZip IsWritten groups c.loop-group.numbers.items)
    (ap (λ (n : ℕ). take n (slice_split is_low_line c.args.groups.now)) end.1
    ∙ take_all _ _ (omega arith)) c.loop-group.invariant
