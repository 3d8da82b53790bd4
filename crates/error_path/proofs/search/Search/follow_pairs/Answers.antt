use Rattle.std.proofs.Common.{◌≡◌, ℕ, ◌+◌, ◌<◌, ◌≤◌, inl, inr, Some, slice_get, refl, sym, ◌∙◌, ap, subst, arith}
use Rattle.std.proofs.lemmas.Bool.{cases_lt}
use Rattle.std.proofs.lemmas.Option.{slice_get_within}
use Rattle.match_summary.specs.declared.reason.Summary.{Summary}
use Rattle.match_summary.specs.Chained.{link_of}
use Rattle.error_path.specs.Reaching.{IsRoundedFrom}
use Rattle.error_path.proofs.Over.{from_on}
use Rattle.error_path.proofs.Searching.{below_on, grows_same, grows_then, stands_on}
use Rattle.match_summary.proofs.Sources.{pair_place, source_at, source_row}
use Rattle.error_path.proofs.search.Search.follow_pairs.Goals as goal

-- at first the search is as it was, and no pair from the variable comes after the newest one
pub loop-next-init : goal.loop-next-init
loop-next-init c = record {
  good = λ origin good. good;
  grows = grows_same _;
  over = c.requires.over;
  there = c.newest_from-next.ensures.there;
  done = λ n m row is from le.
      absurd (c.newest_from-next.ensures.last n le (slice_get_within c.args.summaries.now n row is)
      (source_at c.args.summaries.now n row is ∙ ap (λ (x : ℕ). Some x) from));
}

-- the place of the next pair is within the summaries
pub row-last-requires : goal.row-last-requires
row-last-requires c =
    let row = source_row c.args.summaries.now c.in-Some.at _
    (c.loop-next.invariant.there c.in-Some.at (ap link_of c.in-Some.is)) in
    slice_get_within c.args.summaries.now c.in-Some.at row.0 row.1

pub follow_leaves-requires-clause-below : goal.follow_leaves-requires-clause-below
follow_leaves-requires-clause-below c =
    below_on c.args.graph.now c.args.self.now c.loop-next.self c.loop-next.invariant.grows c.requires.below

pub follow_leaves-requires-clause-front : goal.follow_leaves-requires-clause-front
follow_leaves-requires-clause-front c =
    stands_on c.args.self.now c.loop-next.self c.args.front.now.place c.args.front.now.phase c.args.front.now.at
    c.loop-next.invariant.grows c.requires.front

-- the pair before this one has a lower number
pub loop-next-smaller : goal.loop-next-smaller
loop-next-smaller c =
    let link = c.before_from-next.ensures c.args.call.now.inner
    (c.loop-next.invariant.there c.in-Some.at (ap link_of c.in-Some.is)) in
    let less : link_of c.before_from-next.result ≤ c.in-Some.at = link.within in
    let is : link_of c.loop-next.next ≡ c.in-Some.at + 1 = ap link_of c.in-Some.is in
    let goes : link_of c.before_from-next.result < link_of c.loop-next.next = omega (arith, less, is) in
    goes

-- following the groups of one more pair leaves only the older pairs of the variable
pub loop-next-preserved : goal.loop-next-preserved
loop-next-preserved c =
    let so_far = c.loop-next.invariant in
    let step = c.in_ok-follow_leaves.ensures in
    let sys = c.args.graph.now in
    let lattice = c.args.lattice in
    let rows = c.args.summaries.now in
    let phase = c.args.front.now.phase in
    let site = c.args.call.now.site in
    let inner = c.args.call.now.inner in
    let link = c.before_from-next.ensures inner (so_far.there c.in-Some.at (ap link_of c.in-Some.is)) in
    let is : link_of c.loop-next.next ≡ c.in-Some.at + 1 = ap link_of c.in-Some.is in
    record {
      good = λ origin good. step.good origin (so_far.good origin good);
      grows = grows_then c.args.self.now c.loop-next.self c.follow_leaves.new.self so_far.grows step.grows;
      over = step.over;
      there = link.there;
      done = λ n m row there from le. elim (cases_lt c.in-Some.at n) [
        | inl after ↦
            from_on sys lattice rows c.loop-next.self c.follow_leaves.new.self phase site inner row.to m step.grows
            (so_far.done n m row there from (omega (arith, after, is)))
        | inr early ↦ elim (cases_lt n c.in-Some.at) [
          | inl before ↦ absurd (link.last n le before (source_at rows n row there ∙ ap (λ (x : ℕ). Some x) from))
          | inr last ↦
              let same : n ≡ c.in-Some.at = omega (arith, early, last) in
              let one : Some c.row-last.result ≡ Some row =
              sym c.row-last.ensures ∙ ap (λ (k : ℕ). slice_get rows k) (sym same) ∙ there in
              let row_is : c.row-last.result ≡ row = cc in
              subst (λ (b : ℕ). IsRoundedFrom sys lattice rows c.follow_leaves.new.self phase site inner b m)
              (ap (λ (r : Summary). r.to) row_is) (step.done m)
        ]
      ];
    }

-- when no pair is left, the groups of each pair from the variable were followed
pub returns-clause-done : goal.returns-clause-done
returns-clause-done c = λ b m pair.
    let place = pair_place c.args.summaries.now c.args.call.now.inner b pair in
    let none : link_of c.loop-next.next ≡ 0 = ap link_of c.in_default.is in
    c.loop-next.invariant.done place.0 m (record { from = c.args.call.now.inner; to = b; why = pair.0 }) place.1 refl
    (omega (arith, none))
