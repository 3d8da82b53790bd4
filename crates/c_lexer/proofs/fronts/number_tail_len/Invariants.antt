use Rattle.c_lexer.specs.Spelling.{is_number_tail}
use Rattle.c_lexer.proofs.WalkLemmas.{Follows}
use Rattle.c_lexer.proofs.fronts.number_tail_len.Given as goal

abbrev pub invariant-loop-at : goal.invariant-loop-at
invariant-loop-at l = Follows is_number_tail l.before l.bytes l.at l.last
