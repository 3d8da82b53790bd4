use Rattle.reading_steps.proofs.Fresh.{fresh_is_free}
use Rattle.reading_steps.proofs.laws.fresh_is_free.Goals as goal

pub returns : goal.returns
returns c = fresh_is_free
