use Rattle.reader_base.proofs.RowLoops.{pointer_word_loop}
use Rattle.reader_base.proofs.qualifiers.pointer_words_step.Goals as goal

pub returns : goal.returns
returns c = pointer_word_loop _
