use Rattle.refusal_rules.proofs.Begun.{units_begin_as_trees}
use Rattle.refusal_rules.proofs.laws.units_begin_as_trees.Goals as goal

pub returns : goal.returns
returns c = units_begin_as_trees c.units_are_trees.ensures
