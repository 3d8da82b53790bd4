-- Rooms and heights.
use Rattle.std.proofs.Common.{◌≡◌, ℕ, ◌<◌, min, arith}
use Rattle.std.specs.Prelude.{nat_le}

-- a height that is kept at most 2^32 - 1 tells whether it is within a room
pub least_capped : (n room : ℕ) → room < 65536 → nat_le (min n 4294967295) room ≡ nat_le n room
least_capped n room h = grind arith
