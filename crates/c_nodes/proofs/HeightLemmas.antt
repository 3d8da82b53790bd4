-- Numbers that are kept at most 2^32 - 1.
use Rattle.std.proofs.Common.{◌≡◌, ℕ, ◌+◌, min, max, arith}

pub capped_above : (x : ℕ) → min (min x 4294967295 + 1) 4294967295 ≡ min (x + 1) 4294967295
capped_above x = grind arith

pub capped_max : (x y : ℕ) → max (min x 4294967295) (min y 4294967295) ≡ min (max x y) 4294967295
capped_max x y = grind arith
