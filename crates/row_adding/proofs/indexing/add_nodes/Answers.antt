use Rattle.std.proofs.lemmas.Result.{on_ok_weaker}
use Rattle.row_adding.proofs.Comparing.{below_all_added}
use Rattle.row_adding.proofs.indexing.add_nodes.Goals as goal

-- the links of all nodes in the lattices of values are what the index words of the declaration give
pub returns-clause-ok : goal.returns-clause-ok
returns-clause-ok c = on_ok_weaker c.add_all.result
    (λ is w s. below_all_added w c.value_lattices.result (c.value_lattices.ensures w s) c.items.result.now
    c.args.nodes.now c.items.ensures.nodes c.args.graph.now c.add_all.new.graph is) c.add_all.ensures.ok
