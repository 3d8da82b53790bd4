-- What holds of each number in a list.
use Rattle.std.proofs.Common.{◌≡◌, ℕ, ◌<◌, List, length, get_or, subst}
use Rattle.std.specs.List.{Contains}
use Rattle.std.proofs.lemmas.List.{get_or_read}

-- of the one that was read
pub read_item : (P : ℕ → Type 0) (xs : List ℕ) (i x : ℕ) → i < length xs → x ≡ get_or xs i x → P x → (other : ℕ)
    → P (get_or xs i other)
read_item P xs i x within is holds other = subst P (get_or_read xs i x within is other) holds

-- of each that the list contains
pub each_item : (P : ℕ → Type 0) (xs : List ℕ) → ((i : ℕ) → i < length xs → (other : ℕ) → P (get_or xs i other))
    → (x : ℕ) → Contains xs x → P x
each_item P xs all x (i, within, is) = subst P is (all i within x)
