use Rattle.std.proofs.Common.{◌≡◌, ◌++◌, map, drop}
use Rattle.c_types.specs.SourceSpelling.Tokens.{is_zero}
use Rattle.c_types.proofs.source_spelling.source.zeros.Given as goal

abbrev pub invariant-loop-number : goal.invariant-loop-number
invariant-loop-number l =
    l.all.items ++ map (is_zero l.tokens) (drop l.number l.tokens.tokens) ≡ map (is_zero l.tokens) l.tokens.tokens
