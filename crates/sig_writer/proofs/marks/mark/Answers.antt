use Rattle.std.proofs.Common.{arith}
use Rattle.sig_writer.proofs.Marking.{marks_pair, row_at}
use Rattle.sig_writer.proofs.marks.mark.Goals as goal

-- the node where a matched path begins has a mark to be set
pub index_mut-requires : goal.index_mut-requires
index_mut-requires c =
    let row = row_at c.args.summaries.now c.args.at c.requires.at in
    let joined = c.in-Some.ensures row.0 row.1 in
    let from = joined.0 in
    let to = joined.1 in
    omega (arith, from, to)

-- the node where a matched path ends has a mark to be set
pub index_mut-requires-in-Some : goal.index_mut-requires-in-Some
index_mut-requires-in-Some c =
    let row = row_at c.args.summaries.now c.args.at c.requires.at in
    let joined = c.in-Some.ensures row.0 row.1 in
    let from = joined.2 in
    let to = joined.3 in
    omega (arith, from, to)

pub returns-in-Some : goal.returns-in-Some
returns-in-Some c = λ row there. marks_pair c.args.nodes row c.in-Some.pair (c.in-Some.ensures row there)
    c.args.marks.now.items c.requires.size
