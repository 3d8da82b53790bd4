use Rattle.std.proofs.Common.{◌≡◌, ℕ, inl, inr, ap, subst, arith, refl}
use Rattle.match_summary.specs.Chained.{link_of}
use Rattle.error_path.specs.Reaching.{IsRounded, IsRoundedFrom}
use Rattle.match_summary.proofs.Crossing.{crosses_within, enter_crosses}
use Rattle.error_path.proofs.Over.{enter_covered, enter_over, from_on}
use Rattle.error_path.proofs.Searching.{below_on, grows_then, stands_on}
use Rattle.error_path.proofs.search.Search.follow_groups.Goals as goal

pub follow_pairs-requires-clause-below : goal.follow_pairs-requires-clause-below
follow_pairs-requires-clause-below c =
    below_on c.args.graph.now c.args.self.now c.follow_leaves.new.self c.in_ok-follow_leaves.ensures.grows
    c.requires.below

pub follow_pairs-requires-clause-front : goal.follow_pairs-requires-clause-front
follow_pairs-requires-clause-front c =
    stands_on c.args.self.now c.follow_leaves.new.self c.args.front.now.place c.args.front.now.phase c.args.front.now.at
    c.in_ok-follow_leaves.ensures.grows c.requires.front

-- an `Enter` of the site to the variable is there, so it cannot be that none crosses
pub returns-in_default-clause-done : goal.returns-in_default-clause-done
returns-in_default-clause-done c =
    let none : link_of c.newest.result ≡ 0 = ap link_of c.in_default.is in
    let n = c.args.call.now.enter in
    let crosses = enter_crosses c.args.graph.now c.args.lattice n c.args.call.now.site c.args.front.now.at
    c.args.call.now.inner c.requires.call in
    absurd (c.newest.ensures.last n (omega (arith, none)) (crosses_within c.args.graph.now _ n crosses) crosses)

-- where an `Enter` of the same site and variable was passed in the phase, its groups were followed
pub returns-then-has-clause-done : goal.returns-then-has-clause-done
returns-then-has-clause-done c =
    enter_covered c.args.graph.now c.args.lattice c.args.summaries.now c.args.passed.now c.args.self.now c.requires.over
    c.args.front.now.phase c.in-Some.entry (c.if-has.ensures.0 refl) c.args.call.now.site c.args.call.now.inner
    (c.newest.ensures.there c.in-Some.entry (ap link_of c.in-Some.is))

-- once the empty group and those of pairs were followed, each group of the `Enter` was
pub returns-clause-done : goal.returns-clause-done
returns-clause-done c =
    let sys = c.args.graph.now in
    let lattice = c.args.lattice in
    let rows = c.args.summaries.now in
    let phase = c.args.front.now.phase in
    let site = c.args.call.now.site in
    let inner = c.args.call.now.inner in
    let Done : ℕ → ℕ → Type 0 = λ x k. IsRoundedFrom sys lattice rows c.follow_pairs.new.self phase site inner x k in
    let all : (m : ℕ) → IsRounded sys lattice rows c.follow_pairs.new.self phase site inner m =
    λ m b v st leads.
    let done : Done b m = elim leads [
      | inl same ↦
          subst (λ (x : ℕ). Done x m) same
          (from_on sys lattice rows c.follow_leaves.new.self c.follow_pairs.new.self phase site inner inner m
          c.in_ok-follow_pairs.ensures.grows (c.in_ok-follow_leaves.ensures.done m))
      | inr pair ↦ c.in_ok-follow_pairs.ensures.done b m pair
    ] in
    done v st leads in
    all

-- the mark of the last `Enter` of a site and variable stands for groups that were followed
pub returns-clause-over : goal.returns-clause-over
returns-clause-over c =
    let sys = c.args.graph.now in
    let lattice = c.args.lattice in
    let rows = c.args.summaries.now in
    let phase = c.args.front.now.phase in
    let site = c.args.call.now.site in
    let inner = c.args.call.now.inner in
    let Done : ℕ → ℕ → Type 0 = λ x k. IsRoundedFrom sys lattice rows c.follow_pairs.new.self phase site inner x k in
    let all : (m : ℕ) → IsRounded sys lattice rows c.follow_pairs.new.self phase site inner m =
    λ m b v st leads.
    let done : Done b m = elim leads [
      | inl same ↦
          subst (λ (x : ℕ). Done x m) same
          (from_on sys lattice rows c.follow_leaves.new.self c.follow_pairs.new.self phase site inner inner m
          c.in_ok-follow_pairs.ensures.grows (c.in_ok-follow_leaves.ensures.done m))
      | inr pair ↦ c.in_ok-follow_pairs.ensures.done b m pair
    ] in
    done v st leads in
    enter_over sys lattice rows c.follow_pairs.new.passed c.add.new.self c.follow_pairs.new.self phase c.in-Some.entry
    c.in_ok-add.ensures.only c.in_ok-add.ensures.size c.in_ok-follow_pairs.ensures.over site inner
    (c.newest.ensures.there c.in-Some.entry (ap link_of c.in-Some.is)) all

pub returns-clause-grows : goal.returns-clause-grows
returns-clause-grows c =
    grows_then c.args.self.now c.follow_leaves.new.self c.follow_pairs.new.self c.in_ok-follow_leaves.ensures.grows
    c.in_ok-follow_pairs.ensures.grows

pub returns-clause-good : goal.returns-clause-good
returns-clause-good c =
    λ origin good. c.in_ok-follow_pairs.ensures.good origin (c.in_ok-follow_leaves.ensures.good origin good)
