-- Rooms and heights: a height that is kept at most 2^32 - 1 tells whether what stands above it is within a room.
use Rattle.std.proofs.Common.{◌≡◌, ℕ, ◌<◌, ◌+◌, min, suc, arith}
use Rattle.std.specs.Prelude.{nat_le}

pub least_above : (n room : ℕ) → room < 65536 → nat_le (min (n + 1) 4294967295) room ≡ nat_le (suc n) room
least_above n room h = grind arith

pub least_two_above : (n room : ℕ) → room < 65536 → nat_le (min (n + 1 + 1) 4294967295) room ≡ nat_le (2 + n) room
least_two_above n room h = grind arith
