use Rattle.outcome_laws.proofs.Judging.{one_judgement}
use Rattle.outcome_laws.proofs.laws.one_judgement.Goals as goal

pub returns : goal.returns
returns c = one_judgement
