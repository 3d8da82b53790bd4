use Rattle.std.proofs.Common.{◌≡◌, ℕ, ◌+◌, ◌<◌, ◌≤◌, inl, inr, Some, slice_get, refl, sym, ◌∙◌, ap, subst, arith}
use Rattle.std.proofs.lemmas.Bool.{cases_lt}
use Rattle.std.proofs.lemmas.Option.{slice_get_within}
use Rattle.match_summary.specs.declared.reason.Summary.{Summary}
use Rattle.match_summary.specs.Chained.{link_of}
use Rattle.match_summary.proofs.Sources.{source_at, source_row}
use Rattle.sig_writer.specs.Marking.{IsEnd}
use Rattle.sig_writer.proofs.marks.mark_from.Goals as goal

-- before the first summary of a node none is marked from it
pub loop-next-init : goal.loop-next-init
loop-next-init c = record {
  size = refl;
  kept = λ i is. is;
  only = λ i is. inl is;
  there = c.newest_from-next.ensures.there;
  done = λ n i row is from le.
      absurd (c.newest_from-next.ensures.last n le (slice_get_within c.args.summaries.now n row is)
      (source_at c.args.summaries.now n row is ∙ ap (λ (x : ℕ). Some x) from));
}

-- the summary that the next index names is there, as `mark` requires
pub mark-requires-clause-at : goal.mark-requires-clause-at
mark-requires-clause-at c =
    let row = source_row c.args.summaries.now c.in-Some.at _
    (c.loop-next.invariant.there c.in-Some.at (ap link_of c.in-Some.is)) in
    slice_get_within c.args.summaries.now c.in-Some.at row.0 row.1

pub mark-requires-clause-size : goal.mark-requires-clause-size
mark-requires-clause-size c = c.loop-next.invariant.size ∙ c.requires

-- the next summary of the same start has a lower index than this one
pub loop-next-smaller : goal.loop-next-smaller
loop-next-smaller c =
    let link = c.before_from-next.ensures c.args.from
    (c.loop-next.invariant.there c.in-Some.at (ap link_of c.in-Some.is)) in
    let less : link_of c.before_from-next.result ≤ c.in-Some.at = link.within in
    let is : link_of c.loop-next.next ≡ c.in-Some.at + 1 = ap link_of c.in-Some.is in
    let goes : link_of c.before_from-next.result < link_of c.loop-next.next = omega (arith, less, is) in
    goes

-- the ends of one summary more are marked, and no others
pub loop-next-preserved : goal.loop-next-preserved
loop-next-preserved c =
    let so_far = c.loop-next.invariant in
    let rows = c.args.summaries.now in
    let there = so_far.there c.in-Some.at (ap link_of c.in-Some.is) in
    let row = source_row rows c.in-Some.at c.args.from there in
    let step = c.mark.ensures row.0 row.1 in
    let link = c.before_from-next.ensures c.args.from there in
    let is : link_of c.loop-next.next ≡ c.in-Some.at + 1 = ap link_of c.in-Some.is in
    record {
      size = step.size ∙ so_far.size;
      kept = λ i marked. step.kept i (so_far.kept i marked);
      only = λ i marked. elim (step.only i marked) [
        | inl old ↦ so_far.only i old
        | inr end ↦ inr (c.in-Some.at, row.0, row.1, row.2, end)
      ];
      there = link.there;
      done = λ n i other at from le end. elim (cases_lt c.in-Some.at n) [
        | inl after ↦ step.kept i (so_far.done n i other at from (omega (arith, after, is)) end)
        | inr early ↦ elim (cases_lt n c.in-Some.at) [
          | inl before ↦ absurd (link.last n le before (source_at rows n other at ∙ ap (λ (x : ℕ). Some x) from))
          | inr last ↦
              let same : c.in-Some.at ≡ n = omega (arith, early, last) in
              let one : Some row.0 ≡ Some other = sym row.1 ∙ ap (λ (k : ℕ). slice_get rows k) same ∙ at in
              let row_is : other ≡ row.0 = cc in
              step.done i (subst (λ (r : Summary). IsEnd c.args.nodes r i) row_is end)
        ]
      ];
    }

-- behind the last summary of a node the ends of all its summaries are marked
pub returns : goal.returns
returns c =
    let so_far = c.loop-next.invariant in
    let none : link_of c.loop-next.next ≡ 0 = ap link_of c.in_default.is in
    record {
      size = so_far.size;
      kept = so_far.kept;
      done = λ i some. so_far.done some.0 i some.1 some.2 some.3 (omega (arith, none)) some.4;
      only = so_far.only;
    }
