use Rattle.reader_base.proofs.NameLoop.{name_loop}
use Rattle.reader_base.proofs.lists.names_step.Goals as goal

pub returns : goal.returns
returns c = name_loop c.args.any
