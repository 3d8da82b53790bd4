-- Whether a tree of some height has room.
use Rattle.std.specs.Prelude.{◌≡◌, ℕ, nat_le, true, false, List, Result, Ok, Err}
use Rattle.c_tree.specs.declared.lexeme.Lexeme.{Lexeme}
use Rattle.c_reading.specs.declared.kinds.FaultKind.TheVariants.{TooDeep}
use Rattle.c_reading.specs.Reading.{number_at}
use Rattle.reader_base.specs.declared.fault.ReadError.{ReadError}
use Rattle.reader_base.specs.declared.fault.ReadError.TheVariants as errors

-- the least height is within the room, or the first token is refused
abbrev pub HasRoom : ℕ → ℕ → List Lexeme → Result (Unit {0}) ReadError → Type 0
HasRoom least room ts (Ok _) = nat_le least room ≡ true
HasRoom least room ts (Err e) = (nat_le least room ≡ false) × (e ≡ errors.Fault TooDeep (number_at ts))
