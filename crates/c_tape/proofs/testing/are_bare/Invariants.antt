use Rattle.std.proofs.Common.{◌≡◌, drop}
use Rattle.c_tree.specs.Unit.{spec_words_from}
use Rattle.c_tape.specs.Tests.{is_bare}
use Rattle.c_tape.proofs.testing.are_bare.Given as goal

abbrev pub invariant-loop-word : goal.invariant-loop-word
invariant-loop-word l = is_bare (spec_words_from (drop l.word-index l.words)) ≡ is_bare (spec_words_from l.words)
