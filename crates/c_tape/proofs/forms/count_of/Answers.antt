use Rattle.c_tape.proofs.NodeLemmas.{counted}
use Rattle.c_tape.proofs.forms.count_of.Goals as goal

pub returns : goal.returns
returns c = counted c.args.assocs.now
