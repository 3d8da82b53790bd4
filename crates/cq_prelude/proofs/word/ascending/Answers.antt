use Rattle.std.proofs.lemmas.List.Sorted.{IsNonDecreasingBy-from_sort}
use Rattle.cq_prelude.proofs.Different.{arranges, permuted, rises}
use Rattle.cq_prelude.proofs.word.ascending.Goals as goal

pub returns-then-are_ascending-clause-some : goal.returns-then-are_ascending-clause-some
returns-then-are_ascending-clause-some c =
    arranges _ _ c.in_ok-sort.ensures.permutation
    (rw c.as_slice.ensures.value at (c.are_ascending.ensures.yes c.if-are_ascending.true))

-- where sorted numbers do not ascend, no list of them in ascending order is there
pub returns-else-are_ascending-clause-none : goal.returns-else-are_ascending-clause-none
returns-else-are_ascending-clause-none c _ h =
    c.are_ascending.ensures.no c.if-are_ascending.false
    (rw c.as_slice.ensures.value
    (rises _ (IsNonDecreasingBy-from_sort (λ x. x) _ c.in_ok-sort.ensures.sorted)
    (permuted _ _ c.in_ok-sort.ensures.permutation h)))
