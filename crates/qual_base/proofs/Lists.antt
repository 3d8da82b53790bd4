-- Facts of lists that the library does not have: what stands at a place, and where nothing does.
use Rattle.std.proofs.Common.{◌≡◌, ℕ, zero, suc, ◌<◌, ◌≤◌, List, [], ◌∷◌, ◌++◌, Some, length, map, take, drop, slice_get, refl, ap, ◌∙◌, arith}
use Rattle.std.specs.List.{Contains}
use Rattle.std.proofs.lemmas.Option.{slice_get-get_or}

-- nothing is left behind the end
pub drop_past : {A : Type 0} (xs : List A) (n : ℕ) → length xs ≤ n → drop n xs ≡ []
drop_past [] zero le = refl
drop_past [] (suc n) le = refl
drop_past (x ∷ xs) zero le = absurd (omega arith)
drop_past (x ∷ xs) (suc n) le = drop_past xs n (omega arith)

-- as many as a list has, or more, are all of it
pub take_whole : {A : Type 0} (xs : List A) (n : ℕ) → length xs ≤ n → take n xs ≡ xs
take_whole [] zero le = refl
take_whole [] (suc n) le = refl
take_whole (x ∷ xs) zero le = absurd (omega arith)
take_whole (x ∷ xs) (suc n) le = ap (λ ys. x ∷ ys) (take_whole xs n (omega arith))

-- an item stands at its place still where others come behind the list
pub get_left : {A : Type 0} (xs ys : List A) (n : ℕ) (x : A) → slice_get xs n ≡ Some x
    → slice_get (xs ++ ys) n ≡ Some x
get_left [] ys n x is = absurd cc
get_left (y ∷ xs) ys zero x is = is
get_left (y ∷ xs) ys (suc n) x is = get_left xs ys n x is

-- an item stands at its place still where one more comes behind the list
pub push_left : {A : Type 0} (xs : List A) (last x : A) (n : ℕ) → slice_get xs n ≡ Some x
    → slice_get (xs ++ last ∷ []) n ≡ Some x
push_left [] last x n is = absurd cc
push_left (y ∷ xs) last x zero is = is
push_left (y ∷ xs) last x (suc n) is = push_left xs last x n is

-- the item that comes behind a list stands at the list's length
pub push_last : {A : Type 0} (xs : List A) (last : A) → slice_get (xs ++ last ∷ []) (length xs) ≡ Some last
push_last [] last = refl
push_last (x ∷ xs) last = push_last xs last

-- something stands at each place below the length
pub stands_at : {A : Type 0} (xs : List A) (n : ℕ) → n < length xs → (x : A) × (slice_get xs n ≡ Some x)
stands_at [] n low = absurd (omega arith)
stands_at (x ∷ xs) zero low = (x, refl)
stands_at (x ∷ xs) (suc n) low = stands_at xs n (omega arith)

-- an item of a list has a place in it
pub place_of : {A : Type 0} (xs : List A) (x : A) → Contains xs x → (k : ℕ) × (slice_get xs k ≡ Some x)
place_of xs x there = (there.0, slice_get-get_or xs there.0 x there.1 ∙ ap Some there.2)

-- the pictures of two joined lists are the joined pictures
pub map_more : {A B : Type 0} (f : A → B) (xs ys : List A) → map f (xs ++ ys) ≡ map f xs ++ map f ys
map_more f [] ys = refl
map_more f (x ∷ xs) ys = ap (λ zs. f x ∷ zs) (map_more f xs ys)

-- a list has as many pictures as items
pub map_length : {A B : Type 0} (f : A → B) (xs : List A) → length (map f xs) ≡ length xs
map_length f [] = refl
map_length f (x ∷ xs) = ap suc (map_length f xs)
