use Rattle.std.proofs.Common.{◌≡◌, drop}
use Rattle.c_tree.specs.Unit.{spec_words_from}
use Rattle.c_tree.specs.WellFormed.{has_auto}
use Rattle.spec_forms.proofs.mixed.has_auto.Given as goal

abbrev pub invariant-loop-word : goal.invariant-loop-word
invariant-loop-word l = has_auto (spec_words_from (drop l.word-index l.words)) ≡ has_auto (spec_words_from l.words)
