use Rattle.std.proofs.Common.{arith, ◌<◌, List, length, map, refl}
use Rattle.std.proofs.lemmas.Result.{err_from_is_err_and}
use Rattle.row_adding.specs.declared.indexed.IndexedNode.{IndexedNode}
use Rattle.row_adding.specs.Indexing.{below_in, below_one, indexed_of}
use Rattle.row_adding.proofs.Rowing.{one_added, stops_at_one}
use Rattle.row_adding.proofs.indexing.add_each.Goals as goal

-- the link of a node to one more comes behind those to the nodes so far
pub loop-other-preserved : goal.loop-other-preserved
loop-other-preserved c =
    let test = c.loop-other-test.true in
    let within : c.loop-other.other-index < length c.args.others.now = omega arith in
    one_added (λ (x : IndexedNode). below_one c.args.lattices (indexed_of c.args.it.now) (indexed_of x))
    (λ (xs : List IndexedNode). below_in c.args.lattices (indexed_of c.args.it.now) (map indexed_of xs)) refl
    (λ x xs. refl) c.args.graph.now c.loop-other.graph c.add_one.new.graph c.args.others.now c.loop-other.other-index
    c.other-item.result c.other-item.is within c.loop-other.invariant c.in_ok-add_one.ensures.ok

-- where the link of a node to another halts, those to all halt there
pub returns-in_err-add_one-clause-err : goal.returns-in_err-add_one-clause-err
returns-in_err-add_one-clause-err c =
    let test = c.loop-other-test.true in
    let within : c.loop-other.other-index < length c.args.others.now = omega arith in
    let failed = err_from_is_err_and c.from_residual.result c.from_residual.ensures.1 in
    rw (failed.1, failed.2) (stops_at_one (λ (x : IndexedNode). below_one c.args.lattices (indexed_of c.args.it.now)
    (indexed_of x)) (λ (xs : List IndexedNode). below_in c.args.lattices (indexed_of c.args.it.now)
    (map indexed_of xs)) refl (λ x xs. refl) c.args.graph.now c.loop-other.graph c.add_one.new.graph
    c.in_err-add_one.field-0.0 c.args.others.now c.loop-other.other-index c.other-item.result c.other-item.is within
    c.loop-other.invariant c.in_err-add_one.ensures.err)
