-- Structs and members by their numbers.
use Rattle.std.proofs.Common.{◌≡◌, ℕ, zero, suc, ◌<◌, ◌≤◌, length, get_or, arith, List, [], ◌∷◌, map, slice_get, Some, None, option_map, refl, sym, ap}

-- an item of the results of a list is the result for the item of the list
pub map_get : {A B : Type 0} (f : A → B) (xs : List A) (n : ℕ) → slice_get (map f xs) n ≡ option_map f (slice_get xs n)
map_get f [] n = refl
map_get f (x ∷ xs) zero = refl
map_get f (x ∷ xs) (suc n) = map_get f xs n

-- a number within a list has an item: the one that is got with any default
pub there_at : {A : Type 0} (xs : List A) (n : ℕ) (it : A) → n < length xs → ((d : A) → it ≡ get_or xs n d)
    → slice_get xs n ≡ Some it
there_at [] n it lt is = absurd (omega arith)
there_at (x ∷ xs) zero it lt is = ap Some (sym (is x))
there_at (x ∷ xs) (suc n) it lt is = there_at xs n it (omega arith) is

-- past its end a list has no item
pub none_at : {A : Type 0} (xs : List A) (n : ℕ) → length xs ≤ n → slice_get xs n ≡ None
none_at [] n le = refl
none_at (x ∷ xs) zero le = absurd (omega arith)
none_at (x ∷ xs) (suc n) le = none_at xs n (omega arith)
