use Rattle.std.proofs.Common.{◌≡◌, ℕ, ◌+◌, ◌<◌, ◌≤◌, inl, inr, List, Some, slice_get, refl, sym, ◌∙◌, ap, subst, arith}
use Rattle.std.proofs.lemmas.Bool.{cases_lt}
use Rattle.std.proofs.lemmas.Option.{slice_get_within}
use Rattle.match_summary.specs.declared.reason.Summary.{Summary}
use Rattle.match_summary.specs.Chained.{link_of}
use Rattle.match_summary.proofs.Sources.{source_at, source_row}
use Rattle.sig_writer.specs.Marking.{IsLastEnd, items_at, with_last}
use Rattle.sig_writer.proofs.Numbering.{with_last_twice}
use Rattle.sig_writer.proofs.marks.add_from.Goals as goal

-- before the first summary of a node no number is put from it
pub loop-next-init : goal.loop-next-init
loop-next-init c = record {
  size = refl;
  only = λ j. inr refl;
  there = c.newest_from-next.ensures.there;
  done = λ n j row is from le lt end.
      absurd (c.newest_from-next.ensures.last n le (slice_get_within c.args.summaries.now n row is)
      (source_at c.args.summaries.now n row is ∙ ap (λ (x : ℕ). Some x) from));
}

-- the summary that the next index names is there, as `add` requires
pub add-requires-clause-at : goal.add-requires-clause-at
add-requires-clause-at c =
    let row = source_row c.args.summaries.now c.in-Some.at _
    (c.loop-next.invariant.there c.in-Some.at (ap link_of c.in-Some.is)) in
    slice_get_within c.args.summaries.now c.in-Some.at row.0 row.1

pub add-requires-clause-size : goal.add-requires-clause-size
add-requires-clause-size c = c.loop-next.invariant.size ∙ c.requires

-- the summary before another one of the same start has a lower index
pub loop-next-smaller : goal.loop-next-smaller
loop-next-smaller c =
    let link = c.before_from-next.ensures c.args.from
    (c.loop-next.invariant.there c.in-Some.at (ap link_of c.in-Some.is)) in
    let less : link_of c.before_from-next.result ≤ c.in-Some.at = link.within in
    let is : link_of c.loop-next.next ≡ c.in-Some.at + 1 = ap link_of c.in-Some.is in
    let goes : link_of c.before_from-next.result < link_of c.loop-next.next = omega (arith, less, is) in
    goes

-- the numbers of one summary more are put, and none of others
pub loop-next-preserved : goal.loop-next-preserved
loop-next-preserved c =
    let so_far = c.loop-next.invariant in
    let rows = c.args.summaries.now in
    let number = c.args.number in
    let there = so_far.there c.in-Some.at (ap link_of c.in-Some.is) in
    let row = source_row rows c.in-Some.at c.args.from there in
    let step = c.in_ok-add.ensures row.0 row.1 in
    let link = c.before_from-next.ensures c.args.from there in
    let is : link_of c.loop-next.next ≡ c.in-Some.at + 1 = ap link_of c.in-Some.is in
    let first : ℕ → List ℕ = λ j. items_at c.args.lists.now.items j in
    let now : ℕ → List ℕ = λ j. items_at c.loop-next.lists.items j in
    let after : ℕ → List ℕ = λ j. items_at c.add.new.lists.items j in
    let again : (j : ℕ) → now j ≡ with_last (first j) number → with_last (now j) number ≡ with_last (first j) number =
    λ j put. ap (λ (xs : List ℕ). with_last xs number) put ∙ with_last_twice (first j) number in
    let from_same : (j : ℕ) → after j ≡ with_last (now j) number → after j ≡ with_last (first j) number = λ j put. put
    ∙ elim (so_far.only j) [
      | inl early ↦ again j early.1
      | inr same ↦ ap (λ (xs : List ℕ). with_last xs number) same
    ] in
    record {
      size = step.size ∙ so_far.size;
      only = λ j. elim (step.only j) [
        | inl put ↦ inl ((c.in-Some.at, row.0, row.1, row.2, put.0), from_same j put.1)
        | inr same ↦ elim (so_far.only j) [
          | inl early ↦ inl (early.0, same ∙ early.1)
          | inr alike ↦ inr (same ∙ alike)
        ]
      ];
      there = link.there;
      done = λ n j other at from le lt end. elim (cases_lt c.in-Some.at n) [
        | inl behind ↦
            let put = so_far.done n j other at from (omega (arith, behind, is)) lt end in
            elim (step.only j) [ inl more ↦ more.1 ∙ again j put | inr same ↦ same ∙ put ]
        | inr early ↦ elim (cases_lt n c.in-Some.at) [
          | inl before ↦ absurd (link.last n le before (source_at rows n other at ∙ ap (λ (x : ℕ). Some x) from))
          | inr last ↦
              let same : c.in-Some.at ≡ n = omega (arith, early, last) in
              let one : Some row.0 ≡ Some other = sym row.1 ∙ ap (λ (k : ℕ). slice_get rows k) same ∙ at in
              let row_is : other ≡ row.0 = cc in
              let size = so_far.size in
              from_same j (step.done j (omega (arith, lt, size))
              (subst (λ (r : Summary). IsLastEnd c.args.nodes r j) row_is end))
        ]
      ];
    }

-- behind the last summary of a node its number is in the lists of all that it leads to
pub returns : goal.returns
returns c =
    let so_far = c.loop-next.invariant in
    let none : link_of c.loop-next.next ≡ 0 = ap link_of c.in_default.is in
    record {
      size = so_far.size;
      done = λ j lt some. so_far.done some.0 j some.1 some.2 some.3 (omega (arith, none)) lt some.4;
      only = so_far.only;
    }
