use Rattle.reader_base.proofs.BracketLoop.{bracket_loop}
use Rattle.reader_base.proofs.groups.brackets_step.Goals as goal

pub returns : goal.returns
returns c = bracket_loop
