use Rattle.refusal_rules.proofs.Begun.{units_begin_at_any_height}
use Rattle.refusal_rules.proofs.laws.units_begin_at_any_height.Goals as goal

pub returns : goal.returns
returns c = units_begin_at_any_height
