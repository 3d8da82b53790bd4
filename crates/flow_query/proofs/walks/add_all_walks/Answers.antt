use Rattle.flow_query.proofs.Keeping.{next_walks}
use Rattle.flow_query.proofs.walks.add_all_walks.Goals as goal

-- the walks of one lattice more come behind those of the lattices so far
pub loop-n-preserved : goal.loop-n-preserved
loop-n-preserved c =
    let pushed = c.in_ok-finder.ensures.pushed in
    record {
      finder = c.in_ok-finder.ensures.finder;
      walks = next_walks c.args.found.now.graph.now c.loop-n.n c.new.result c.args.vars.now c.loop-n.all.items
          c.push_walks.new.all.items pushed.0 c.new.ensures pushed.1 pushed.2
          c.loop-n.invariant.walks;
    }
