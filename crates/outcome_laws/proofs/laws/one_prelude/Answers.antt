use Rattle.outcome_laws.proofs.Preludes.{one_prelude}
use Rattle.outcome_laws.proofs.laws.one_prelude.Goals as goal

pub returns : goal.returns
returns c = one_prelude c.one_unit_at_most.ensures
