use Rattle.std.proofs.Common.{◌≡◌, drop}
use Rattle.c_tree.specs.Specifiers.{storage_words}
use Rattle.c_tree.specs.Unit.{spec_words_from}
use Rattle.c_units.specs.Scoping.{has_typedef_word}
use Rattle.cq_prelude.proofs.declaring.declare_types.Given as goal

abbrev pub invariant-loop-word : goal.invariant-loop-word
invariant-loop-word l =
    has_typedef_word (storage_words (spec_words_from (drop l.word-index l.words)))
    ≡ has_typedef_word (storage_words (spec_words_from l.words))
