use Rattle.c_lexer.proofs.FrontLemmas.{word_longest}
use Rattle.c_lexer.proofs.fronts.word_len.Goals as goal

pub returns : goal.returns
returns c = rw c.word_part_len.ensures.value (word_longest c.args.bytes.now c.requires)
