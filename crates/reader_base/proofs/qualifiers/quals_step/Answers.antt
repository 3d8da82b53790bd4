use Rattle.reader_base.proofs.RowLoops.{qual_loop}
use Rattle.reader_base.proofs.qualifiers.quals_step.Goals as goal

pub returns : goal.returns
returns c = qual_loop
