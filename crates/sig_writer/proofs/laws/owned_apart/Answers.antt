use Rattle.sig_writer.proofs.Apart.{owned_apart}
use Rattle.sig_writer.proofs.laws.owned_apart.Goals as goal

pub returns : goal.returns
returns c = owned_apart c.functions_own_theirs.ensures
