use Rattle.definition_examples.proofs.RefusalExamples.WiderRefused.{wider_hold}
use Rattle.definition_examples.proofs.refusal_examples.laws.wider_refusals_hold.Goals as goal

pub returns : goal.returns
returns c =
    wider_hold c.whole_are_mixes.ensures c.mixes_go_on.ensures c.units_are_trees.ensures c.units_begin_as_trees.ensures
    c.none_is_earlier.ensures
