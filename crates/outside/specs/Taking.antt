-- What taking a whole file gives, by the reading that it left.
use Rattle.std.specs.Prelude.{◌≡◌, ℕ, ◌<◌, ◌≤◌, length, false, Ok, Err}
use Rattle.std.specs.declared.result.Result.{Result}
use Rattle.std.specs.declared.vec.Vec.{Vec}
use Rattle.std.specs.declared.alloc.Global.{Global}
use Rattle.outside.specs.Readings.{Reading, Going, Whole, Broken, is_broken}
use Rattle.outside.specs.declared.taking.TakeFault.{TakeFault}
use Rattle.outside.specs.declared.taking.TakeFault.TheVariants.{ReadFault, TooLarge, NoMemory}

-- All its bytes where its end was reached within the limit; too large exactly where more than the limit was given; and
-- a read fault where a call failed.
abbrev pub Takes : ℕ → Reading → Result (Vec ℕ Global) TakeFault → Type 0
Takes limit reading (Ok v) = (reading.end ≡ Whole) × (reading.bytes ≡ v.items) × (length reading.bytes ≤ limit)
Takes limit reading (Err TooLarge) = (reading.end ≡ Going) × (limit < length reading.bytes)
Takes limit reading (Err ReadFault) = reading.end ≡ Broken
Takes limit reading (Err NoMemory) = is_broken reading.end ≡ false
