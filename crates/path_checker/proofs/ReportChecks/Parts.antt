-- A list round one of its elements.
use Rattle.std.proofs.Common.{◌≡◌, ℕ, zero, suc, ◌<◌, List, [], ◌∷◌, ◌++◌, length, map, take, drop, get_or, ap, arith, sym}

-- what a list maps to is the image of what is before a place, of the item there, and of what is behind it
pub parts_at : {A B : Type 0} (f : A → B) (xs : List A) (i : ℕ) (x : A) → i < length xs → x ≡ get_or xs i x
    → map f xs ≡ map f (take i xs) ++ f x ∷ map f (drop (suc i) xs)
parts_at f [] i x below is = absurd (omega arith)
parts_at f (y ∷ ys) zero x below is = ap (λ z. f z ∷ map f ys) (sym is)
parts_at f (y ∷ ys) (suc i) x below is = ap (λ zs. f y ∷ zs) (parts_at f ys i x (omega arith) is)
