use Rattle.outcome_laws.proofs.Judging.{one_error_count}
use Rattle.outcome_laws.proofs.laws.one_error_count.Goals as goal

pub returns : goal.returns
returns c = one_error_count
