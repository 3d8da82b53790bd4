use Rattle.std.proofs.Common.{take}
use Rattle.c_tree.specs.Unit.{spec_words_from}
use Rattle.c_specs.specs.Reading.{AreRead}
use Rattle.c_specs.proofs.reading.read.Given as goal

abbrev pub invariant-loop-word : goal.invariant-loop-word
invariant-loop-word l = AreRead l.mix (spec_words_from (take l.word-index l.words))
