use Rattle.std.proofs.Common.{◌≡◌, drop}
use Rattle.c_specs.specs.Mix.{mix_from, mix_of}
use Rattle.c_tree.specs.Unit.{spec_words_from}
use Rattle.spec_forms.proofs.mixed.mix_of.Given as goal

abbrev pub invariant-loop-word : goal.invariant-loop-word
invariant-loop-word l = mix_from l.mix (spec_words_from (drop l.word-index l.words)) ≡ mix_of (spec_words_from l.words)
