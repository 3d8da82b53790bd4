use Rattle.std.proofs.Common.{arith}
use Rattle.std.proofs.lemmas.Result.{on_ok_weaker}
use Rattle.sig_writer.proofs.Marking.{row_at}
use Rattle.sig_writer.proofs.Numbering.{puts_end}
use Rattle.sig_writer.proofs.marks.add.Goals as goal

-- the list of the node that a matched path leads to is there, as `put_at` requires
pub put_at-requires : goal.put_at-requires
put_at-requires c =
    let row = row_at c.args.summaries.now c.args.at c.requires.at in
    let joined = c.in-Some.ensures row.0 row.1 in
    let from = joined.2 in
    let to = joined.3 in
    omega (arith, from, to)

-- where a matched path joins two nodes, the number is put into the list of the one it leads to
pub returns-in-Some : goal.returns-in-Some
returns-in-Some c =
    on_ok_weaker c.put_at.result
    (λ put row there. puts_end c.args.nodes row c.in-Some.pair (c.in-Some.ensures row there) c.args.number
    c.args.lists.now.items c.put_at.new.lists.items put) c.put_at.ensures
