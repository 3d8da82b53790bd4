use Rattle.lattice_file.specs.Text.{stands_in_text}
use Rattle.lattice_file.proofs.GapLemmas.{all_inside}
use Rattle.lattice_file.proofs.lexemes.text_end.Goals as goal

-- up to the first line feed only bytes of a colour text stand
pub returns-else-bytes-at-ne10-clause-text : goal.returns-else-bytes-at-ne10-clause-text
returns-else-bytes-at-ne10-clause-text c =
    let so_far = c.loop-at.invariant in
    all_inside stands_in_text c.args.bytes.now c.args.from c.loop-at.at so_far.later so_far.within so_far.inside

-- up to the closing quote only bytes of a colour text stand
pub returns-else-bytes-at-ne34-clause-text : goal.returns-else-bytes-at-ne34-clause-text
returns-else-bytes-at-ne34-clause-text c =
    let so_far = c.loop-at.invariant in
    all_inside stands_in_text c.args.bytes.now c.args.from c.loop-at.at so_far.later so_far.within so_far.inside

-- where nothing closes a colour text, only bytes of one stand up to the end
pub returns-after-loop-at-clause-text : goal.returns-after-loop-at-clause-text
returns-after-loop-at-clause-text c =
    let so_far = c.loop-at.invariant in
    all_inside stands_in_text c.args.bytes.now c.args.from c.loop-at.at so_far.later so_far.within so_far.inside
