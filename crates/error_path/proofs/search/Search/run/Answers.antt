use Rattle.std.proofs.Common.{◌≡◌, ℕ, inl, inr, subst, arith, sym}
use Rattle.std.proofs.lemmas.Bool.{cases_lt}
use Rattle.std.proofs.lemmas.Option.{slice_get_within}
use Rattle.error_path.specs.Reaching.{IsVisited, StandsAt}
use Rattle.error_path.proofs.Searching.{below_on, grows_then, grows_length, visited_on, visited_here}
use Rattle.error_path.proofs.search.Search.run.Goals as goal

pub visit-requires-clause-below : goal.visit-requires-clause-below
visit-requires-clause-below c =
    below_on c.args.graph.now c.args.self.now c.loop-place.self c.loop-place.invariant.grows c.requires.below

-- the front has the phase and the variable of its place in the queue
pub visit-requires-clause-front : goal.visit-requires-clause-front
visit-requires-clause-front c =
    let At : ℕ → Type 0 = λ k. StandsAt c.loop-place.self k c.front_at-front.result.phase c.front_at-front.result.at in
    subst At (sym c.front_at-front.ensures.place) c.front_at-front.ensures.stands

-- visiting one place leaves those before it visited, and takes as many marks as items it adds
pub loop-place-preserved : goal.loop-place-preserved
loop-place-preserved c =
    let so_far = c.loop-place.invariant in
    let step = c.in_ok-visit.ensures in
    let old = c.loop-place.self in
    let new = c.visit.new.self in
    let front = c.front_at-front.result in
    let low = so_far.low in
    let more = grows_length old new step.grows in
    let here = c.loop-place-test.true in
    record {
      good = λ origin good. step.good origin (so_far.good origin good);
      grows = grows_then c.args.self.now old new so_far.grows step.grows;
      visited = λ k lt. elim (cases_lt k c.loop-place.place) [
        | inl before ↦ visited_on c.args.graph.now c.args.lattice c.args.summaries.now old new k step.grows
            (omega (arith, before, low)) (so_far.visited k before)
        | inr last ↦
            let is : c.loop-place.place ≡ k = omega (arith, lt, last) in
            let At : ℕ → Type 0 = λ m. IsVisited c.args.graph.now c.args.lattice c.args.summaries.now new m in
            subst At is (visited_here c.args.graph.now c.args.lattice c.args.summaries.now old new c.loop-place.place
            front.phase front.at step.grows c.front_at-front.ensures.stands step.done)
      ];
      over = step.over;
      low = omega (arith, here, more);
    }

-- when the place is past the queue, each place was visited
pub returns-clause-visited : goal.returns-clause-visited
returns-clause-visited c = λ place r is n.
    let past = c.loop-place-test.false in
    let within = slice_get_within c.loop-place.self.queue.items place r is in
    c.loop-place.invariant.visited place (omega (arith, within, past)) r is n
