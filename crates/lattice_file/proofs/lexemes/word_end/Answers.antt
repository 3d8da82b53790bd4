use Rattle.lattice_file.specs.Text.{stands_in_words}
use Rattle.lattice_file.proofs.GapLemmas.{all_inside}
use Rattle.lattice_file.proofs.lexemes.word_end.Goals as goal

-- up to the first byte that does not stand in words, all bytes do
pub returns-else-is_word_byte-clause-word : goal.returns-else-is_word_byte-clause-word
returns-else-is_word_byte-clause-word c =
    let so_far = c.loop-at.invariant in
    all_inside stands_in_words c.args.bytes.now c.args.from c.loop-at.at so_far.later so_far.within so_far.inside

-- where no byte stops a word, all bytes up to the end stand in words
pub returns-after-loop-at-clause-word : goal.returns-after-loop-at-clause-word
returns-after-loop-at-clause-word c =
    let so_far = c.loop-at.invariant in
    all_inside stands_in_words c.args.bytes.now c.args.from c.loop-at.at so_far.later so_far.within so_far.inside
