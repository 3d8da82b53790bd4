use Rattle.outcome_laws.proofs.Checking.{one_check}
use Rattle.outcome_laws.proofs.laws.one_check.Goals as goal

pub returns : goal.returns
returns c = one_check
