use Rattle.reader_base.proofs.RowLoops.{attr_loop}
use Rattle.reader_base.proofs.groups.attrs_step.Goals as goal

pub returns : goal.returns
returns c = attr_loop _
