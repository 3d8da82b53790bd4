use Rattle.c_lexer.proofs.NumberLemmas.{spelled-numbered}
use Rattle.c_lexer.proofs.laws.names_are_numbered.Goals as goal

pub returns : goal.returns
returns c = spelled-numbered
