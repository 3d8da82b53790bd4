use Rattle.refusal_rules.proofs.Begun.{first_bad_is_allowed}
use Rattle.refusal_rules.proofs.laws.first_bad_is_allowed.Goals as goal

pub returns : goal.returns
returns c = first_bad_is_allowed c.units_begin_as_trees.ensures c.units_begin_at_any_height.ensures
