use Rattle.std.proofs.Common.{◌∙◌}
use Rattle.c_lexer.proofs.GapLemmas.{line-len}
use Rattle.c_lexer.proofs.gaps.rest_of_line.Goals as goal

pub returns : goal.returns
returns c = c.unwrap_or.ensures ∙ line-len c.args.bytes.now c.memchr.result c.memchr.ensures
