use Rattle.std.proofs.lemmas.Result.{on_ok_weaker}
use Rattle.row_adding.specs.Parts.{has}
use Rattle.row_adding.proofs.Bounding.{view_added_at}
use Rattle.row_adding.proofs.bounds.+lattices.Goals as goal

-- the bounds of a lattice and those behind it are the bounds of the lattices from it on
pub returns-clause-ok : goal.returns-clause-ok
returns-clause-ok t c = on_ok_weaker c.add_bounds_from.result
    (λ rest. view_added_at (has c.args.attribute) c.args.var c.args.span.now c.args.n c.new-number.result
    c.args.lattices.now c.get.result.now c.args.graph.now c.add_bounds_of.new.graph c.add_bounds_from.new.graph
    c.new-number.ensures c.get.ensures c.in_ok-add_bounds_of.ensures.ok rest) c.add_bounds_from.ensures.ok
