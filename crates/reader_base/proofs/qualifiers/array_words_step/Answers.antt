use Rattle.reader_base.proofs.RowLoops.{array_word_loop}
use Rattle.reader_base.proofs.qualifiers.array_words_step.Goals as goal

pub returns : goal.returns
returns c = array_word_loop
