use Rattle.std.proofs.Common.{◌≡◌, ℕ, drop}
use Rattle.c_types.specs.SourceSpelling.Tokens.{spelled_among}
use Rattle.c_types.specs.SourceSpelling.Keys.{own_or, key_by}
use Rattle.c_types.proofs.source_spelling.earlier.EarlierNames.all_keys.Given as goal

-- each name has the key of its spelling among the tokens from the current one on, or else its own number
abbrev pub invariant-loop-number : goal.invariant-loop-number
invariant-loop-number l =
    (name : ℕ) → own_or l.keys.items name
    ≡ key_by l.self name name (spelled_among l.tokens (drop l.number l.tokens.tokens) name)
