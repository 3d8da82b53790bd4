use Rattle.std.proofs.Common.{ℕ, slice_get, sym, ◌∙◌, ap, subst, arith}
use Rattle.flow_graph.specs.Unfolding.{NamesElementsIn}
use Rattle.annotate.proofs.Firsts.{none_first, next_first, own_of, first_of_all, kept_of_all}
use Rattle.annotate.proofs.judging.first_exceeded.Goals as goal

pub first_exceeded-found-requires-clause-solved : goal.first_exceeded-found-requires-clause-solved
first_exceeded-found-requires-clause-solved c =
    (c.requires.solutions.each c.new-number.result c.solved_of-solved.result.now c.solved_of-solved.ensures).solved

-- the constraints name elements of the lattice of each solution
pub first_exceeded-found-requires-clause-named : goal.first_exceeded-found-requires-clause-named
first_exceeded-found-requires-clause-named c =
    let own = c.requires.solutions.each c.new-number.result c.solved_of-solved.result.now c.solved_of-solved.ensures in
    let In : ℕ → Type 0 = λ l. NamesElementsIn c.args.graph.now l c.get.result.now.order in
    subst In (sym own.lattice_is) (c.requires.named c.new-number.result c.get.result.now c.get.ensures)

pub loop-n-init : goal.loop-n-init
loop-n-init c = none_first c.args.scene.now c.args.graph.now c.args.solutions.now

-- the first exceeded bound of one lattice more keeps what is found the first of those so far
pub loop-n-preserved : goal.loop-n-preserved
loop-n-preserved c =
    let own = c.requires.solutions.each c.new-number.result c.solved_of-solved.result.now c.solved_of-solved.ensures in
    next_first c.args.scene.now c.args.graph.now c.args.solutions.now c.loop-n.n c.loop-n.first
    c.first_exceeded-found.result c.earlier-first.result c.earlier-first.ensures c.loop-n.invariant
    (own_of c.args.scene.now c.args.graph.now c.args.solutions.now c.loop-n.n c.get.result.now
    c.solved_of-solved.result.now c.first_exceeded-found.result (ap (slice_get c.args.scene.now.lattices.now)
    (sym c.new-number.ensures) ∙ c.get.ensures) (ap (slice_get c.args.solutions.now) (sym c.new-number.ensures)
    ∙ c.solved_of-solved.ensures) (own.lattice_is ∙ c.new-number.ensures)
    (c.first_exceeded-found.ensures.first c.requires.owned) (c.first_exceeded-found.ensures.kept c.requires.owned))

-- what is found behind the last lattice is the first exceeded bound of all
pub returns-clause-over : goal.returns-clause-over
returns-clause-over c =
    let past = c.loop-n-test.false in let count = c.len-n-end.ensures.count in
    first_of_all c.args.scene.now c.args.graph.now c.args.solutions.now c.loop-n.n c.loop-n.first
    (omega arith) c.loop-n.invariant

-- where none is found behind the last lattice, all solutions are kept
pub returns-clause-kept : goal.returns-clause-kept
returns-clause-kept c =
    let past = c.loop-n-test.false in let count = c.len-n-end.ensures.count in
    kept_of_all c.args.scene.now c.args.graph.now c.args.solutions.now c.loop-n.n c.loop-n.first
    (omega arith) c.loop-n.invariant
