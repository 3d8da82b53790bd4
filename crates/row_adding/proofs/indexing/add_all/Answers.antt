use Rattle.std.proofs.Common.{arith, ◌<◌, List, length, map, refl}
use Rattle.std.proofs.lemmas.Result.{err_from_is_err_and}
use Rattle.row_adding.specs.declared.indexed.IndexedNode.{IndexedNode}
use Rattle.row_adding.specs.Indexing.{all_below_in, below_in, indexed_of}
use Rattle.row_adding.proofs.Rowing.{one_added, stops_at_one}
use Rattle.row_adding.proofs.indexing.add_all.Goals as goal

-- the links of one node more come behind those of the nodes so far
pub loop-it-preserved : goal.loop-it-preserved
loop-it-preserved c =
    let test = c.loop-it-test.true in
    let within : c.loop-it.it-index < length c.args.nodes.now = omega arith in
    one_added (λ (x : IndexedNode). below_in c.args.lattices (indexed_of x) (map indexed_of c.args.nodes.now))
    (λ (xs : List IndexedNode). all_below_in c.args.lattices (map indexed_of xs) (map indexed_of c.args.nodes.now)) refl
    (λ x xs. refl) c.args.graph.now c.loop-it.graph c.add_each.new.graph c.args.nodes.now c.loop-it.it-index
    c.it-item.result c.it-item.is within c.loop-it.invariant c.in_ok-add_each.ensures.ok

-- where the links of a node halt, those of all nodes halt there
pub returns-in_err-add_each-clause-err : goal.returns-in_err-add_each-clause-err
returns-in_err-add_each-clause-err c =
    let test = c.loop-it-test.true in
    let within : c.loop-it.it-index < length c.args.nodes.now = omega arith in
    let failed = err_from_is_err_and c.from_residual.result c.from_residual.ensures.1 in
    rw (failed.1, failed.2)
    (stops_at_one (λ (x : IndexedNode). below_in c.args.lattices (indexed_of x) (map indexed_of c.args.nodes.now))
    (λ (xs : List IndexedNode). all_below_in c.args.lattices (map indexed_of xs) (map indexed_of c.args.nodes.now)) refl
    (λ x xs. refl) c.args.graph.now c.loop-it.graph c.add_each.new.graph c.in_err-add_each.field-0.0 c.args.nodes.now
    c.loop-it.it-index c.it-item.result c.it-item.is within c.loop-it.invariant c.in_err-add_each.ensures.err)
