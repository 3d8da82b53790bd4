use Rattle.std.proofs.Common.{List, ℕ, ◌∙◌, ap}
use Rattle.std.proofs.lemmas.Result.{on_ok_weaker}
use Rattle.sig_writer.specs.Marking.{with_last}
use Rattle.sig_writer.proofs.Numbering.{items_read, puts_at}
use Rattle.sig_writer.proofs.marks.put_at.Goals as goal

-- a number put last into the list of a node is put there and nowhere else
pub returns : goal.returns
returns c =
    let lists = c.args.lists.now.items in
    on_ok_weaker c.put.result (λ put.
    puts_at c.args.number c.args.at lists c.put.new.list c.requires
    (put ∙ ap (λ (xs : List ℕ). with_last xs c.args.number)
    (items_read lists c.args.at c.index_mut.result.now c.requires c.index_mut.ensures.value))) c.put.ensures
