use Rattle.std.proofs.Common.{◌≡◌, ℕ, List, drop}
use Rattle.c_types.specs.SourceSpelling.Tokens.{or_behind, name_among}
use Rattle.c_types.specs.SourceSpelling.Keys.{key_at, past}
use Rattle.c_types.proofs.source_spelling.earlier.EarlierNames.add_tokens.Given as goal

-- the keys so far, with those of the tokens that are left, are as with those of all tokens; the count stays
abbrev pub invariant-loop-number : goal.invariant-loop-number
invariant-loop-number l =
    record {
      keys : (t : List ℕ)
          → or_behind (key_at l.self t)
          (past l.initial.self.count (name_among l.tokens (drop l.number l.tokens.tokens) t))
          ≡ or_behind (key_at l.initial.self t) (past l.initial.self.count (name_among l.tokens l.tokens.tokens t));
      count : l.self.count ≡ l.initial.self.count;
    }
