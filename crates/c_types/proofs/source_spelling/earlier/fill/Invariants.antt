use Rattle.std.proofs.Common.{◌≡◌, ℕ, length}
use Rattle.c_types.specs.SourceSpelling.Keys.{own_or}
use Rattle.c_types.proofs.source_spelling.earlier.fill.Given as goal

-- so many keys are there as the loop has come to, and each name has the key that it had at first
abbrev pub invariant-loop-number : goal.invariant-loop-number
invariant-loop-number l =
    record {
      long : length l.keys.items ≡ l.number;
      same : (n : ℕ) → own_or l.keys.items n ≡ own_or l.initial.keys.items n;
    }
