use Rattle.std.proofs.Common.{◌≡◌, false, drop}
use Rattle.c_lexer.specs.Marks.{are_flags}
use Rattle.c_lexer.proofs.marks.are_all_flags.Given as goal

abbrev pub invariant-loop-byte : goal.invariant-loop-byte
invariant-loop-byte l = are_flags false l.bytes ≡ are_flags l.spaced (drop l.byte-index l.bytes)
