use Rattle.lattice_file.proofs.GapLemmas.{line_found, line_stops, line_over}
use Rattle.lattice_file.proofs.lexemes.line_end.Goals as goal

-- a line goes to its line feed
pub returns-else-bytes-at-ne10-clause-line : goal.returns-else-bytes-at-ne10-clause-line
returns-else-bytes-at-ne10-clause-line c =
    let so_far = c.loop-at.invariant in
    line_found c.args.bytes.now c.args.from c.loop-at.at so_far.later so_far.within so_far.inside
    (line_stops c.args.bytes.now c.loop-at.at c.loop-at-test.true c.if-bytes-at-ne10.false)

-- a line without a line feed goes to the end of the bytes
pub returns-after-loop-at-clause-line : goal.returns-after-loop-at-clause-line
returns-after-loop-at-clause-line c =
    let so_far = c.loop-at.invariant in
    line_found c.args.bytes.now c.args.from c.loop-at.at so_far.later so_far.within so_far.inside
    (line_over c.args.bytes.now c.loop-at.at c.loop-at-test.false)
