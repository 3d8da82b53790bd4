use Rattle.c_lexer.proofs.GapLemmas.{block-found, block-none}
use Rattle.std.proofs.lemmas.List.{take_rest}
use Rattle.c_lexer.proofs.gaps.block_comment_len.Goals as goal

pub returns-in-Some : goal.returns-in-Some
returns-in-Some c = block-found c.args.bytes.now c.in-Some.n c.requires (rw take_rest at c.in-Some.ensures)

pub returns-in-None : goal.returns-in-None
returns-in-None c = block-none c.args.bytes.now (rw take_rest at c.in-None.ensures)
