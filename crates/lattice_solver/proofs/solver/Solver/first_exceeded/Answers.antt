use Rattle.std.proofs.Common.{◌≡◌, ℕ, ◌<◌, below_more, subst, arith, sym, ◌∙◌, length}
use Rattle.std.proofs.lemmas.Option.{slice_get_within}
use Rattle.lattice_solver.specs.Solution.{IsUnder, Exceeds}
use Rattle.lattice_solver.proofs.Exceeding.{kept, over_exceeds, under_keeps, none_is, some_of}
use Rattle.lattice_solver.proofs.solver.Solver.first_exceeded.Goals as goal

-- a constraint at which no element is found is under, as those before it
pub loop-n-preserved : goal.loop-n-preserved
loop-n-preserved c = below_more _ _ c.loop-n.invariant
    (let Is : ℕ → Type 0 = λ k. IsUnder c.args.graph.now c.args.self.now c.args.lattice.now.order k in
    subst Is c.new.ensures
    (none_is _ c.exceeded.result (sym c.is_some.ensures ∙ c.if-is_some.false) c.exceeded.ensures.none))

-- a constraint at which an element is found, behind such as are under, is the first one over
pub returns-then-is_some-clause-over : goal.returns-then-is_some-clause-over
returns-then-is_some-clause-over c =
    let found = some_of _ c.exceeded.result (sym c.is_some.ensures ∙ c.if-is_some.true) c.exceeded.ensures.element in
    let at : c.new.result ≡ c.new-then-is_some.result = c.new.ensures ∙ sym c.new-then-is_some.ensures in
    let Is : ℕ → Type 0 = λ n. Exceeds c.args.graph.now c.args.self.now c.args.lattice.now.order n found.0 in
    record {
      element = found.0;
      exceeds = subst Is at found.1;
      before = λ m lt. c.loop-n.invariant m (omega (arith, lt, c.new-then-is_some.ensures));
    }

-- with owners as they should be, the constraint that is answered is the first exceeded bound
pub returns-then-is_some-clause-first : goal.returns-then-is_some-clause-first
returns-then-is_some-clause-first c = λ owned.
    let found = some_of _ c.exceeded.result (sym c.is_some.ensures ∙ c.if-is_some.true) c.exceeded.ensures.element in
    let at : c.new.result ≡ c.new-then-is_some.result = c.new.ensures ∙ sym c.new-then-is_some.ensures in
    let Is : ℕ → Type 0 = λ n. Exceeds c.args.graph.now c.args.self.now c.args.lattice.now.order n found.0 in
    record {
      exceeded = over_exceeds c.args.graph.now c.args.self.now c.args.lattice.now.order c.requires.solved
          c.requires.named c.laws.ensures.lattice c.laws.ensures.solution
          owned c.laws.ensures.solved c.new-then-is_some.result found.0 (subst Is at found.1);
      before = λ m lt.
          under_keeps c.args.graph.now c.args.self.now c.args.lattice.now.order c.requires.solved c.requires.named
          c.laws.ensures.lattice c.laws.ensures.solution owned c.laws.ensures.solved m
          (c.loop-n.invariant m (omega (arith, lt, c.new-then-is_some.ensures)));
    }

-- when the constraints are through, no element exceeds any of them
pub returns-clause-under : goal.returns-clause-under
returns-clause-under c = λ n v limit e st.
    let within : n < length c.args.graph.now.constraints =
    slice_get_within c.args.graph.now.constraints n st.constraint st.there in
    c.loop-n.invariant n (omega (arith, within, c.loop-n-test.false, c.len-n-end.ensures.length)) v limit e st

-- with no exceeded bound the system is accepted, and the printed elements can be kept at once
pub returns-clause-kept : goal.returns-clause-kept
returns-clause-kept c = λ owned.
    kept c.args.graph.now c.args.self.now c.args.lattice.now.order c.requires.solved c.requires.named
    c.laws.ensures.lattice c.laws.ensures.solution owned c.laws.ensures.solved (λ n v limit e st.
    let within : n < length c.args.graph.now.constraints =
    slice_get_within c.args.graph.now.constraints n st.constraint st.there in
    c.loop-n.invariant n (omega (arith, within, c.loop-n-test.false, c.len-n-end.ensures.length)) v limit e st)
