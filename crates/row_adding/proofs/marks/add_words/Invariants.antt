use Rattle.std.proofs.Common.{take}
use Rattle.row_adding.specs.Adding.{Adds}
use Rattle.row_adding.specs.Nodes.{words_row}
use Rattle.row_adding.proofs.marks.add_words.Given as goal

abbrev pub invariant-loop-word : goal.invariant-loop-word
invariant-loop-word l = Adds l.known l.fn.graph l.graph (λ w. words_row w l.var (take l.word-index l.words))
