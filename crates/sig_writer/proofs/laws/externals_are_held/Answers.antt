use Rattle.sig_writer.proofs.Held.{held}
use Rattle.sig_writer.proofs.laws.externals_are_held.Goals as goal

pub returns : goal.returns
returns c = held
