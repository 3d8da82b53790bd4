use Rattle.definition_examples.proofs.RefusalExamples.Refused.{refusals_hold}
use Rattle.definition_examples.proofs.refusal_examples.laws.refusals_hold.Goals as goal

pub returns : goal.returns
returns c =
    refusals_hold c.whole_are_mixes.ensures c.mixes_go_on.ensures c.units_are_trees.ensures
    c.units_begin_as_trees.ensures c.units_begin_at_any_height.ensures c.none_is_earlier.ensures
