use Rattle.lattice_file.proofs.GapLemmas.{comment_found}
use Rattle.lattice_file.proofs.lexemes.block_comment_end.Goals as goal

-- the first star before a slash is the end of the comment
pub returns-then-bytes-at-eq47-clause-comment : goal.returns-then-bytes-at-eq47-clause-comment
returns-then-bytes-at-eq47-clause-comment c =
    let so_far = c.loop-at.invariant in
    comment_found c.args.bytes.now c.args.from c.loop-at.at so_far.later c.loop-at-test.true so_far.inside
    c.if-bytes-at-eq42.true c.if-bytes-at-eq47.true
