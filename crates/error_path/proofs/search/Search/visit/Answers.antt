use Rattle.std.proofs.Common.{◌≡◌, ℕ, List, get_or, inl, inr, sym, subst, arith}
use Rattle.std.specs.List.{Contains}
use Rattle.std.proofs.lemmas.Bool.{cases_lt}
use Rattle.error_path.specs.Reaching.{IsFollowed}
use Rattle.error_path.proofs.Items.{each_item, read_item}
use Rattle.error_path.proofs.Searching.{below_on, followed_on, followed_elsewhere, grows_same, grows_then, stands_on}
use Rattle.error_path.proofs.search.Search.visit.Goals as goal

pub loop-edge-init : goal.loop-edge-init
loop-edge-init c = record {
  good = λ origin good. good;
  grows = grows_same _;
  done = λ k lt other. absurd (omega (arith, lt));
  over = c.requires.over;
}

pub follow-requires-clause-below : goal.follow-requires-clause-below
follow-requires-clause-below c =
    below_on c.args.graph.now c.args.self.now c.loop-edge.self c.loop-edge.invariant.grows c.requires.below

pub follow-requires-clause-front : goal.follow-requires-clause-front
follow-requires-clause-front c =
    stands_on c.args.self.now c.loop-edge.self c.args.front.now.place c.args.front.now.phase c.args.front.now.at
    c.loop-edge.invariant.grows c.requires.front

-- following one more constraint keeps those before it followed and the passed marks right
pub loop-edge-preserved : goal.loop-edge-preserved
loop-edge-preserved c =
    let so_far = c.loop-edge.invariant in
    let step = c.in_ok-follow.ensures in
    let row = c.out-edge-items.result.now in
    let Is : ℕ → Type 0 = λ m. IsFollowed c.args.graph.now c.args.lattice c.args.summaries.now c.follow.new.self
    c.args.front.now.phase c.args.front.now.at m in
    record {
      good = λ origin good. step.good origin (so_far.good origin good);
      grows = grows_then c.args.self.now c.loop-edge.self c.follow.new.self so_far.grows step.grows;
      done = λ k lt other. elim (cases_lt k c.loop-edge.edge-index) [
        | inl before ↦
            followed_on c.args.graph.now c.args.lattice c.args.summaries.now c.loop-edge.self c.follow.new.self
            c.args.front.now.phase c.args.front.now.at _ step.grows (so_far.done k before other)
        | inr last ↦
            let is : c.loop-edge.edge-index ≡ k = omega (arith, lt, last) in
            let held = read_item Is row c.loop-edge.edge-index c.edge-item.result c.loop-edge-test.true c.edge-item.is
            step.done other in
            subst (λ (i : ℕ). Is (get_or row i other)) is held
      ];
      over = step.over;
    }

-- each constraint is followed: it is one of those that begin at the variable, or it leads nowhere from there
pub returns-clause-done : goal.returns-clause-done
returns-clause-done c = λ n.
    let row = c.out-edge-items.result.now in
    let Is : ℕ → Type 0 = λ m. IsFollowed c.args.graph.now c.args.lattice c.args.summaries.now c.loop-edge.self
    c.args.front.now.phase c.args.front.now.at m in
    followed_elsewhere c.args.graph.now c.args.lattice c.args.summaries.now c.loop-edge.self c.args.front.now.phase
    c.args.front.now.at n (λ keyed. each_item Is row (λ k lt. c.loop-edge.invariant.done k
    (omega (arith, lt, c.loop-edge-test.false))) n (subst (λ (xs : List ℕ). Contains xs n)
    (sym c.out-edge-items.ensures) ((c.requires.index.out c.args.front.now.at).all n keyed)))
