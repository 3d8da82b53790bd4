use Rattle.reader_base.proofs.RowLoops.{asm_word_loop}
use Rattle.reader_base.proofs.rows.asm_words_step.Goals as goal

pub returns : goal.returns
returns c = asm_word_loop
