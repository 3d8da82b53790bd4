-- A fresh name is free.
use Rattle.std.specs.Prelude.{ℕ, ◌≤◌}
use Rattle.c_units.specs.HeldScopes.{HeldScopes}
use Rattle.reading_steps.specs.Fresh.{fresh, IsFree}

-- no open scope gives a kind to a name that is no less than the fresh one, and the innermost does not hold it
abbrev pub FreshIsFree : Type 0
FreshIsFree = (s : HeldScopes) (name : ℕ) → fresh s ≤ name → IsFree s name
