use Rattle.std.proofs.lemmas.List.{take_rest}
use Rattle.c_lexer.proofs.FrontLemmas.{dollar_longest}
use Rattle.c_lexer.proofs.fronts.dollar_len.Goals as goal

pub returns : goal.returns
returns c = rw (c.word_part_len.ensures.value, take_rest) (dollar_longest c.args.bytes.now c.requires)
