use Rattle.std.proofs.Common.{◌≡◌, ℕ, ◌+◌, ◌<◌, ◌≤◌, inl, inr, Some, slice_get, refl, sym, ◌∙◌, ap, subst, arith}
use Rattle.std.proofs.lemmas.Bool.{cases_lt}
use Rattle.std.proofs.lemmas.Option.{slice_get_within}
use Rattle.match_summary.specs.declared.reason.Summary.{Summary}
use Rattle.match_summary.specs.Chained.{link_of}
use Rattle.match_summary.specs.Closing.{IsLeftFrom}
use Rattle.match_summary.proofs.Growth.{at_contains, at_grown, grows_not, grows_then, leads_grown, left_between, sources_grown}
use Rattle.match_summary.proofs.Sources.{source_at, source_row}
use Rattle.match_summary.proofs.closure.close_pairs.Goals as goal

-- at first no pair that begins where the `Enter` leads comes after the newest one
pub loop-next-init : goal.loop-next-init
loop-next-init c = record {
  kept = c.requires.kept;
  grows = grows_not c.args.found.now.known;
  there = c.newest_from-next.ensures.there;
  done = λ n m row is from le.
      absurd (c.newest_from-next.ensures.last n le (slice_get_within c.args.found.now.known n row is)
      (source_at c.args.found.now.known n row is ∙ ap (λ (x : ℕ). Some x) from));
}

-- the number of the next pair inside the group is within the summaries
pub row-pair-requires : goal.row-pair-requires
row-pair-requires c =
    let row = source_row c.loop-next.found.known c.in-Some.at _
    (c.loop-next.invariant.there c.in-Some.at (ap link_of c.in-Some.is)) in
    slice_get_within c.loop-next.found.known c.in-Some.at row.0 row.1

pub close_all-requires-clause-path : goal.close_all-requires-clause-path
close_all-requires-clause-path c =
    leads_grown _ _ c.args.from c.args.call.now.from c.loop-next.invariant.grows c.requires.path

-- the pair before this one with the same begin has a lower number
pub loop-next-smaller : goal.loop-next-smaller
loop-next-smaller c =
    let at = c.loop-next.invariant.there c.in-Some.at (ap link_of c.in-Some.is) in
    let link = c.before_from-next.ensures c.args.call.now.to
    (sources_grown _ _ c.in-Some.at _ c.in_ok-close_all.ensures.grows at) in
    let less : link_of c.before_from-next.result ≤ c.in-Some.at = link.within in
    let is : link_of c.loop-next.next ≡ c.in-Some.at + 1 = ap link_of c.in-Some.is in
    let goes : link_of c.before_from-next.result < link_of c.loop-next.next = omega (arith, less, is) in
    goes

-- closing the groups of one more inner pair keeps those of the pairs from that number on followed
pub loop-next-preserved : goal.loop-next-preserved
loop-next-preserved c =
    let so_far = c.loop-next.invariant in
    let step = c.in_ok-close_all.ensures in
    let at = so_far.there c.in-Some.at (ap link_of c.in-Some.is) in
    let link = c.before_from-next.ensures c.args.call.now.to (sources_grown _ _ c.in-Some.at _ step.grows at) in
    let is : link_of c.loop-next.next ≡ c.in-Some.at + 1 = ap link_of c.in-Some.is in
    record {
      kept = step.kept;
      grows = grows_then _ _ _ so_far.grows step.grows;
      there = link.there;
      done = λ n m row there from le. elim (cases_lt c.in-Some.at n) [
        | inl after ↦
            left_between _ _ _ _ _ _ _ _ _ _ _ (grows_not c.args.found.now.known) step.grows
            (so_far.done n m row there from (omega (arith, after, is)))
        | inr early ↦ elim (cases_lt n c.in-Some.at) [
          | inl before ↦
              let grown = at_grown _ _ n row (grows_then _ _ _ so_far.grows step.grows) there in
              absurd (link.last n le before (source_at _ n row grown ∙ ap (λ (x : ℕ). Some x) from))
          | inr last ↦
              let same : n ≡ c.in-Some.at = omega (arith, early, last) in
              let one : Some c.row-pair.result ≡ Some row = sym c.row-pair.ensures ∙ ap
              (λ (k : ℕ). slice_get c.loop-next.found.known k) (sym same) ∙ at_grown _ _ n row so_far.grows there in
              let row_is : c.row-pair.result ≡ row = cc in
              subst (λ (b : ℕ). IsLeftFrom c.args.given.now.graph.now c.args.given.now.lattice c.args.found.now.known
              c.close_all.new.found.known c.args.from c.args.call.now.site c.args.call.now.to b m)
              (ap (λ (r : Summary). r.to) row_is)
              (left_between _ _ _ _ _ _ _ _ _ _ _ so_far.grows (grows_not c.close_all.new.found.known) (step.done m))
        ]
      ];
    }

-- when no inner pair is left, the groups of each that was there at first were closed
pub returns-clause-done : goal.returns-clause-done
returns-clause-done c = λ b m pair.
    let place = at_contains c.args.found.now.known _ pair.1 in
    let none : link_of c.loop-next.next ≡ 0 = ap link_of c.in_default.is in
    c.loop-next.invariant.done place.0 m (record { from = c.args.call.now.to; to = b; why = pair.0 }) place.2 refl
    (omega (arith, none))
