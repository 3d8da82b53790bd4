use Rattle.std.proofs.Common.{◌≡◌, ℕ, ◌+◌, ◌<◌, ◌≤◌, inl, inr, Some, slice_get, refl, sym, ◌∙◌, ap, subst, arith}
use Rattle.std.proofs.lemmas.Bool.{cases_lt}
use Rattle.std.proofs.lemmas.Option.{slice_get_within}
use Rattle.match_summary.specs.declared.reason.Summary.{Summary}
use Rattle.match_summary.specs.Chained.{link_of}
use Rattle.lattice_solver.specs.Stable.{IsPassedFrom}
use Rattle.lattice_solver.specs.Working.{had_of}
use Rattle.lattice_solver.proofs.Gaining.{gains_same, gains_then, system_same}
use Rattle.lattice_solver.proofs.Over.{from_on}
use Rattle.match_summary.proofs.Sources.{pair_place, source_at, source_row}
use Rattle.lattice_solver.proofs.turns.pass_pairs.Goals as goal

-- at first no pair from the variable comes after the newest one
pub loop-next-init : goal.loop-next-init
loop-next-init c = record {
  gains = gains_same _;
  sound = λ lead all. all;
  over = c.requires.over;
  same = refl;
  there = c.newest_from-next.ensures.there;
  done = λ n m row is from le.
      absurd (c.newest_from-next.ensures.last n le (slice_get_within c.args.flows.now.summaries.now n row is)
      (source_at c.args.flows.now.summaries.now n row is ∙ ap (λ (x : ℕ). Some x) from));
}

-- the number of the next pair is within the summaries
pub row-pair-requires : goal.row-pair-requires
row-pair-requires c =
    let row = source_row c.args.flows.now.summaries.now c.in-Some.at _
    (c.loop-next.invariant.there c.in-Some.at (ap link_of c.in-Some.is)) in
    slice_get_within c.args.flows.now.summaries.now c.in-Some.at row.0 row.1

pub pass_leaves-requires-clause-ready : goal.pass_leaves-requires-clause-ready
pass_leaves-requires-clause-ready c = system_same c.args.flows.now _ _ c.loop-next.invariant.gains.size c.requires.ready

-- the pair before this one of the variable has a lower number
pub loop-next-smaller : goal.loop-next-smaller
loop-next-smaller c =
    let link = c.before_from-next.ensures c.args.call.now.to
    (c.loop-next.invariant.there c.in-Some.at (ap link_of c.in-Some.is)) in
    let less : link_of c.before_from-next.result ≤ c.in-Some.at = link.within in
    let is : link_of c.loop-next.next ≡ c.in-Some.at + 1 = ap link_of c.in-Some.is in
    let goes : link_of c.before_from-next.result < link_of c.loop-next.next = omega (arith, less, is) in
    goes

-- passing the groups of one more pair keeps those of the pairs from that number on passed
pub loop-next-preserved : goal.loop-next-preserved
loop-next-preserved c =
    let so_far = c.loop-next.invariant in
    let step = c.pass_leaves.ensures in
    let sys = c.args.flows.now.graph.now in
    let lattice = c.args.flows.now.lattice in
    let rows = c.args.flows.now.summaries.now in
    let had = had_of c.args.taken.now in
    let site = c.args.call.now.site in
    let to = c.args.call.now.to in
    let link = c.before_from-next.ensures to (so_far.there c.in-Some.at (ap link_of c.in-Some.is)) in
    let is : link_of c.loop-next.next ≡ c.in-Some.at + 1 = ap link_of c.in-Some.is in
    record {
      gains = gains_then c.args.work.now c.loop-next.work c.pass_leaves.new.work so_far.gains step.gains;
      sound = λ lead all. step.sound lead (so_far.sound lead all);
      over = step.over;
      same = step.same ∙ so_far.same;
      there = link.there;
      done = λ n m row there from le. elim (cases_lt c.in-Some.at n) [
        | inl after ↦
            from_on sys lattice rows had c.loop-next.work.sets c.pass_leaves.new.work.sets site to row.to m
            step.gains.kept (so_far.done n m row there from (omega (arith, after, is)))
        | inr early ↦ elim (cases_lt n c.in-Some.at) [
          | inl before ↦ absurd (link.last n le before (source_at rows n row there ∙ ap (λ (x : ℕ). Some x) from))
          | inr last ↦
              let same : n ≡ c.in-Some.at = omega (arith, early, last) in
              let one : Some c.row-pair.result ≡ Some row =
              sym c.row-pair.ensures ∙ ap (λ (k : ℕ). slice_get rows k) (sym same) ∙ there in
              let row_is : c.row-pair.result ≡ row = cc in
              subst (λ (b : ℕ). IsPassedFrom sys lattice rows had c.pass_leaves.new.work.sets site to b m)
              (ap (λ (r : Summary). r.to) row_is) (step.passed m)
        ]
      ];
    }

-- when no pair is left, the groups of each pair from the variable were passed
pub returns-clause-passed : goal.returns-clause-passed
returns-clause-passed c = λ b m pair.
    let place = pair_place c.args.flows.now.summaries.now c.args.call.now.to b pair in
    let none : link_of c.loop-next.next ≡ 0 = ap link_of c.in_default.is in
    c.loop-next.invariant.done place.0 m (record { from = c.args.call.now.to; to = b; why = pair.0 }) place.1 refl
    (omega (arith, none))
