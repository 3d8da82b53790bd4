use Rattle.std.proofs.lemmas.Nat.{le_or_l}
use Rattle.bounds_below.proofs.work.union.Goals as goal

pub returns-clause-more : goal.returns-clause-more
returns-clause-more c = le_or_l _ _
