use Rattle.std.proofs.lemmas.Result.{on_ok_weaker}
use Rattle.row_adding.specs.Parts.{has}
use Rattle.row_adding.proofs.Bounding.{entry_added_at}
use Rattle.row_adding.proofs.bounds.+elements.Goals as goal

-- the bound of an element, where it has the attribute, and those behind it are the bounds of the elements from it on
pub returns-clause-ok : goal.returns-clause-ok
returns-clause-ok t c = on_ok_weaker c.add_bounds_of.result
    (λ rest. entry_added_at (has c.args.attribute) c.args.var c.args.span.now c.args.number c.args.n c.new-elem.result
    c.args.lattice.now.entries c.entry.result.now c.args.graph.now c.add_bound.new.graph c.add_bounds_of.new.graph
    c.new-elem.ensures c.entry.ensures c.in_ok-add_bound.ensures.ok rest) c.add_bounds_of.ensures.ok
