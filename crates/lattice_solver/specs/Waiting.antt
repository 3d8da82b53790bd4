-- Who waits.
use Rattle.std.specs.Prelude.{◌≡◌, ◌≢◌, ℕ, ◌<◌, Bool, false, List, length, slice_index_or}

-- a mark for each variable that waits, and how many there are at most
pub record Waiters : Type 0 where
  pub marks : List Bool
  pub count : ℕ

-- whether a variable waits
abbrev pub waits : Waiters → ℕ → Bool
waits waiters v = slice_index_or waiters.marks v false

-- nobody waits
abbrev pub AreNone : Waiters → Type 0
AreNone waiters = (v : ℕ) → waits waiters v ≡ false

-- one that waited does so no more
pub record IsTaken (old new : Waiters) (at : ℕ) : Type 0 where
  pub low : at < length old.marks
  pub here : waits new at ≡ false
  pub others : (v : ℕ) → v ≢ at → waits new v ≡ waits old v
  pub count : new.count < old.count
