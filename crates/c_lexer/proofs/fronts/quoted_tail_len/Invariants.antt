use Rattle.std.proofs.Common.{false}
use Rattle.c_lexer.proofs.WalkLemmas.{Follows, NoneUpTo, quoted_from}
use Rattle.c_lexer.proofs.fronts.quoted_tail_len.Given as goal

abbrev pub invariant-loop-at : goal.invariant-loop-at
invariant-loop-at l = record {
  follows : Follows (quoted_from l.quote) false l.bytes l.at l.escaped;
  none : NoneUpTo (quoted_from l.quote false) l.bytes l.at;
}
