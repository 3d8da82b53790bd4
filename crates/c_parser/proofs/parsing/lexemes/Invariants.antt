use Rattle.std.proofs.Common.{◌≡◌, take}
use Rattle.c_parser.specs.Parsing.{numbered}
use Rattle.c_parser.proofs.parsing.lexemes.Given as goal

abbrev pub invariant-loop-number : goal.invariant-loop-number
invariant-loop-number l = l.all.items ≡ take l.number (numbered 0 l.tokens.tokens)
