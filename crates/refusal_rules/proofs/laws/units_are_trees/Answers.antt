use Rattle.refusal_rules.proofs.Begun.{units_are_trees}
use Rattle.refusal_rules.proofs.laws.units_are_trees.Goals as goal

pub returns : goal.returns
returns c = units_are_trees c.whole_are_mixes.ensures c.mixes_go_on.ensures
