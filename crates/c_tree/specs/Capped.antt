-- Numbers that are kept at most 2^32 - 1.
use Rattle.std.specs.Prelude.{ℕ, min}

-- the number itself, or 2^32 - 1 where it is larger
abbrev pub capped : ℕ → ℕ
capped n = min n 4294967295
