-- Rooms and heights.
use Rattle.std.proofs.Common.{◌≡◌, ℕ, ◌<◌, min, max, arith}
use Rattle.std.specs.Prelude.{nat_le}

-- a height that is kept at most 2^32 - 1 tells whether it, or more, is within a room
pub greater_capped : (least height room : ℕ) → room < 65536
    → nat_le (max least (min height 4294967295)) room ≡ nat_le (max least height) room
greater_capped least height room h = grind arith
