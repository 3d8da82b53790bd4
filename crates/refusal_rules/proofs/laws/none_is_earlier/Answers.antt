use Rattle.refusal_rules.proofs.Begun.{none_is_earlier}
use Rattle.refusal_rules.proofs.laws.none_is_earlier.Goals as goal

pub returns : goal.returns
returns c = none_is_earlier
