use Rattle.reader_base.proofs.RowLoops.{extension_loop}
use Rattle.reader_base.proofs.rows.extensions_step.Goals as goal

pub returns : goal.returns
returns c = extension_loop _
