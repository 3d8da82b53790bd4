-- Less room is left where a set grows.
use Rattle.std.proofs.Common.{ℕ, zero, suc, ◌<◌, ◌^◌, List, [], ◌∷◌, length, get_or, arith, set}
use Rattle.bounds_below.specs.Carrying.{room}

-- a set of 64 bits that becomes greater leaves less room
pub room-set : (sets : List ℕ) (i y : ℕ) → i < length sets → get_or sets i 0 < y → y < 2 ^ 64
    → room (set sets i y) < room sets
room-set [] i y within more fits = absurd (omega (arith, within))
room-set (x ∷ xs) zero y within more fits = omega (arith, more, fits)
room-set (x ∷ xs) (suc i) y within more fits =
    let deeper : room (set xs i y) < room xs = room-set xs i y (omega (arith, within)) more fits in
    omega (arith, deeper)
