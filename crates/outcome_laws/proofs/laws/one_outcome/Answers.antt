use Rattle.outcome_laws.proofs.Outcomes.{one_outcome}
use Rattle.outcome_laws.proofs.laws.one_outcome.Goals as goal

pub returns : goal.returns
returns c = one_outcome c.one_unit_at_most.ensures c.one_certificate.ensures c.one_verdict.ensures c.one_text.ensures
