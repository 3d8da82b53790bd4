use Rattle.std.proofs.Common.{◌≡◌, drop}
use Rattle.c_tree.specs.Height.{pointer_words_height}
use Rattle.c_nodes.proofs.heights.of_pointer_words.Given as goal

abbrev pub invariant-loop-word : goal.invariant-loop-word
invariant-loop-word l = pointer_words_height (drop l.word-index l.words) ≡ pointer_words_height l.words
