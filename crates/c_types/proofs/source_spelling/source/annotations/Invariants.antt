use Rattle.std.proofs.Common.{◌≡◌, ◌++◌, map, drop}
use Rattle.c_types.specs.SourceSpelling.Tokens.{is_annotation}
use Rattle.c_types.proofs.source_spelling.source.annotations.Given as goal

abbrev pub invariant-loop-number : goal.invariant-loop-number
invariant-loop-number l =
    l.all.items
    ++ map (is_annotation l.tokens) (drop l.number l.tokens.tokens) ≡ map (is_annotation l.tokens) l.tokens.tokens
