use Rattle.std.proofs.lemmas.List.Filters.{dedup_is}
use Rattle.std.proofs.lemmas.List.Kept.{IsStrictlySortedBy-dedup, Contains-dedup, Contains-from_dedup}
use Rattle.std.proofs.lemmas.List.Sorted.{Contains-permutation, IsPermutation-sym}
use Rattle.certificate_text.proofs.Pairs.{pair_total, pair_equiv, pair_tied, pair_same}
use Rattle.certificate_text.proofs.order.put_in_order.Goals as goal

-- sorted pairs without repetition ascend, and are the ones that were there
pub returns : goal.returns
returns c =
    let is = dedup_is _ _ _ c.dedup.ensures.filtered in
    let moved = c.in_ok-sort.ensures.permutation in
    record {
      ascending = rw is (IsStrictlySortedBy-dedup pair_total pair_tied _ c.in_ok-sort.ensures.sorted);
      keeps = λ p. (
        λ there. rw is (Contains-dedup pair_equiv pair_same _ p (Contains-permutation _ _ p moved there)),
        λ there. Contains-permutation _ _ p (IsPermutation-sym _ _ moved) (Contains-from_dedup _ _ p (rw is at there)),
      );
    }
