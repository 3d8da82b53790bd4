-- The first place up to which no lattice text begins as the bytes of a file do.
use Rattle.std.specs.Prelude.{◌≡◌, ℕ, ◌+◌, ◌<◌, ◌≤◌, List, ◌++◌, length, take, Bool}
use Rattle.lattice_file.specs.Blocks.{BlockView}
use Rattle.lattice_file.specs.Text.{IsLatticeText}

-- some lattice text begins with these bytes
pub record BeginsText (wide : Bool) (front : List ℕ) : Type 0 where
  pub more : List ℕ
  pub blocks : List BlockView
  pub text : IsLatticeText wide blocks (front ++ more)

-- What stands before the place begins a text. With the byte at the place it begins none; or the place is right behind
-- the last byte, and the bytes are no text as they end there.
pub record IsFirstBad (wide : Bool) (bytes : List ℕ) (place : ℕ) : Type 0 where
  pub within : place ≤ length bytes
  pub begins : BeginsText wide (take place bytes)
  pub ends_in_bytes : place < length bytes → BeginsText wide (take (place + 1) bytes) → ⊥
  pub ends_behind : place ≡ length bytes → (blocks : List BlockView) → IsLatticeText wide blocks bytes → ⊥
