use Rattle.reader_base.proofs.RowLoops.{text_loop}
use Rattle.reader_base.proofs.rows.texts_step.Goals as goal

pub returns : goal.returns
returns c = text_loop
