use Rattle.std.proofs.Common.{◌≡◌, drop}
use Rattle.c_tree.specs.Unit.{spec_words_from}
use Rattle.c_tape.specs.Tests.{is_lone}
use Rattle.c_tape.proofs.testing.are_lone.Given as goal

abbrev pub invariant-loop-word : goal.invariant-loop-word
invariant-loop-word l = is_lone (spec_words_from (drop l.word-index l.words)) ≡ is_lone (spec_words_from l.words)
