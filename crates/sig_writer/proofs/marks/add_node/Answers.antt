use Rattle.std.proofs.Common.{◌∙◌}
use Rattle.std.proofs.lemmas.Result.{on_ok_weaker}
use Rattle.sig_writer.proofs.Numbering.{puts_reached}
use Rattle.sig_writer.proofs.marks.add_node.Goals as goal

pub add_from-requires : goal.add_from-requires
add_from-requires c = let put = c.in_ok-put_at.ensures in put.size ∙ c.requires.size

-- a number in a node's own list and in those that it leads to is in the lists of all that it reaches
pub returns : goal.returns
returns c =
    let first = c.in_ok-put_at.ensures in
    on_ok_weaker c.add_from.result
    (λ put. puts_reached c.args.nodes c.args.summaries.now c.args.n c.requires.node c.new.result c.new.ensures
    c.args.number c.args.lists.now.items c.put_at.new.lists.items
    c.add_from.new.lists.items c.requires.size first put) c.add_from.ensures
