use Rattle.walk_laws.proofs.Holding.{walk_shown}
use Rattle.walk_laws.proofs.walk_shown.Goals as goal

pub returns : goal.returns
returns c = walk_shown
