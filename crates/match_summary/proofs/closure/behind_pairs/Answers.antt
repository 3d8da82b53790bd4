use Rattle.std.proofs.Common.{◌≡◌, ℕ, ◌+◌, ◌<◌, ◌≤◌, inl, inr, length, Some, slice_get, refl, sym, ◌∙◌, ap, subst, arith}
use Rattle.std.proofs.lemmas.Bool.{cases_lt}
use Rattle.std.proofs.lemmas.Option.{slice_get_within}
use Rattle.match_summary.specs.declared.reason.Summary.{Summary}
use Rattle.match_summary.specs.Reason.{before_of}
use Rattle.match_summary.specs.Summary.{HasPair}
use Rattle.match_summary.specs.Chained.{IsLink, link_of}
use Rattle.match_summary.specs.Closing.{targets, Follows}
use Rattle.match_summary.proofs.Growth.{at_contains, at_grown, contains_at, follows_on, grows_not, grows_then, row_at, target_at, targets_grown}
use Rattle.match_summary.proofs.closure.behind_pairs.Goals as goal

-- at first no pair that leads to the begin of the part comes after the newest one
pub loop-next-init : goal.loop-next-init
loop-next-init c =
    let link = subst (λ (x : ℕ). IsLink (targets c.args.found.now.known) x (length c.args.found.now.known)
    (link_of c.newest-next.result)) c.before-2.ensures c.newest-next.ensures in
    record {
      kept = c.requires.kept;
      grows = grows_not c.args.found.now.known;
      there = link.there;
      done = λ n row is to le.
          absurd (link.last n le (slice_get_within c.args.found.now.known n row is)
          (target_at c.args.found.now.known n row is ∙ ap (λ (x : ℕ). Some x) to));
    }

-- the number of the next pair is within the summaries
pub row-pair-requires : goal.row-pair-requires
row-pair-requires c =
    let row = row_at c.loop-next.found.known c.in-Some.at _
    (c.loop-next.invariant.there c.in-Some.at (ap link_of c.in-Some.is)) in
    slice_get_within c.loop-next.found.known c.in-Some.at row.0 row.1

pub extend-requires-clause-begins : goal.extend-requires-clause-begins
extend-requires-clause-begins c =
    c.loop-next.invariant.kept.good.begins c.row-pair.result.from c.row-pair.result.to
    (c.row-pair.result.why, contains_at c.loop-next.found.known c.in-Some.at _ c.row-pair.ensures)

-- the next pair leads to the begin of the part
pub extend-requires-clause-front : goal.extend-requires-clause-front
extend-requires-clause-front c =
    let at = c.loop-next.invariant.there c.in-Some.at (ap link_of c.in-Some.is) in
    let one : Some c.row-pair.result.to ≡ Some (before_of c.args.why.now) =
    sym (target_at c.loop-next.found.known c.in-Some.at c.row-pair.result c.row-pair.ensures) ∙ at in
    let same : c.row-pair.result.to ≡ before_of c.args.why.now = cc in
    inr (subst (λ (x : ℕ). HasPair c.loop-next.found.known c.row-pair.result.from x) same
    (c.row-pair.result.why, contains_at c.loop-next.found.known c.in-Some.at _ c.row-pair.ensures))

-- the pair before this one with the same end has a lower number
pub loop-next-smaller : goal.loop-next-smaller
loop-next-smaller c =
    let at = c.loop-next.invariant.there c.in-Some.at (ap link_of c.in-Some.is) in
    let link = c.before-next.ensures (before_of c.args.why.now)
    (targets_grown _ _ c.in-Some.at _ c.in_ok-extend.ensures.grows at) in
    let less : link_of c.before-next.result ≤ c.in-Some.at = link.within in
    let is : link_of c.loop-next.next ≡ c.in-Some.at + 1 = ap link_of c.in-Some.is in
    let goes : link_of c.before-next.result < link_of c.loop-next.next = omega (arith, less, is) in
    goes

-- putting the part behind one more pair keeps the pairs from that number on followed
pub loop-next-preserved : goal.loop-next-preserved
loop-next-preserved c =
    let so_far = c.loop-next.invariant in
    let step = c.in_ok-extend.ensures in
    let at = so_far.there c.in-Some.at (ap link_of c.in-Some.is) in
    let link = c.before-next.ensures (before_of c.args.why.now) (targets_grown _ _ c.in-Some.at _ step.grows at) in
    let is : link_of c.loop-next.next ≡ c.in-Some.at + 1 = ap link_of c.in-Some.is in
    record {
      kept = step.kept;
      grows = grows_then _ _ _ so_far.grows step.grows;
      there = link.there;
      done = λ n row there to le. elim (cases_lt c.in-Some.at n) [
        | inl after ↦ follows_on c.args.given.now.graph.now _ _ row.from c.args.to step.grows
            (so_far.done n row there to (omega (arith, after, is)))
        | inr early ↦ elim (cases_lt n c.in-Some.at) [
          | inl before ↦
              let grown = at_grown _ _ n row (grows_then _ _ _ so_far.grows step.grows) there in
              absurd (link.last n le before (target_at _ n row grown ∙ ap (λ (x : ℕ). Some x) to))
          | inr last ↦
              let same : n ≡ c.in-Some.at = omega (arith, early, last) in
              let one : Some c.row-pair.result ≡ Some row = sym c.row-pair.ensures ∙ ap
              (λ (k : ℕ). slice_get c.loop-next.found.known k) (sym same) ∙ at_grown _ _ n row so_far.grows there in
              let from : c.row-pair.result ≡ row = cc in
              subst (λ (x : ℕ). Follows c.args.given.now.graph.now c.extend.new.found.known x c.args.to)
              (ap (λ (r : Summary). r.from) from) step.done
        ]
      ];
    }

-- when no pair is left, the part was put behind each pair that was there at first and leads to its begin
pub returns-clause-done : goal.returns-clause-done
returns-clause-done c = λ t pair.
    let place = at_contains c.args.found.now.known _ pair.1 in
    let none : link_of c.loop-next.next ≡ 0 = ap link_of c.in_default.is in
    c.loop-next.invariant.done place.0 (record { from = t; to = before_of c.args.why.now; why = pair.0 }) place.2 refl
    (omega (arith, none))
