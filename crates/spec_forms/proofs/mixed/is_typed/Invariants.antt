use Rattle.std.proofs.Common.{◌≡◌, drop}
use Rattle.c_specs.specs.Mix.{is_typed}
use Rattle.c_tree.specs.Unit.{spec_words_from}
use Rattle.spec_forms.proofs.mixed.is_typed.Given as goal

abbrev pub invariant-loop-word : goal.invariant-loop-word
invariant-loop-word l = is_typed (spec_words_from (drop l.word-index l.words)) ≡ is_typed (spec_words_from l.words)
