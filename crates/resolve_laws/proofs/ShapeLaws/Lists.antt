-- The front and the back of a list, as of a stack.
use Rattle.std.proofs.Common.{◌≡◌, ℕ, zero, suc, ◌-◌, ◌+◌, List, [], ◌∷◌, ◌++◌, length, take, drop, refl, ◌∙◌, ap, arith, length-append}

-- dropping one element more than before an element leaves those behind that
pub drop_one_more : {A : Type 0} (n : ℕ) (xs : List A) (y : A) (ys : List A) → drop n xs ≡ y ∷ ys → drop (suc n) xs ≡ ys
drop_one_more zero [] y ys e = absurd cc
drop_one_more zero (x ∷ xs) y ys e = cc
drop_one_more (suc n) [] y ys e = absurd cc
drop_one_more (suc n) (x ∷ xs) y ys e = drop_one_more n xs y ys e

-- as many dropped as stand in front leave what is behind them
pub drop_all : {A : Type 0} (xs ys : List A) → drop (length xs) (xs ++ ys) ≡ ys
drop_all [] ys = refl
drop_all (x ∷ xs) ys = drop_all xs ys

-- as many taken as stand in front are those
pub take_all : {A : Type 0} (xs ys : List A) → take (length xs) (xs ++ ys) ≡ xs
take_all {A} [] ys = refl
take_all {A} (x ∷ xs) ys = ap (λ (zs : List A). x ∷ zs) (take_all xs ys)

-- two lists joined are longer than the second by the first
above : {A : Type 0} (xs ys : List A) → length (xs ++ ys) - length ys ≡ length xs
above {A} xs ys = let e : length (xs ++ ys) ≡ length xs + length ys = length-append xs ys in omega arith

-- what lies under all that is above it
pub drop_above : {A : Type 0} (xs ys : List A) → drop (length (xs ++ ys) - length ys) (xs ++ ys) ≡ ys
drop_above {A} xs ys = ap (λ (n : ℕ). drop n (xs ++ ys)) (above xs ys) ∙ drop_all xs ys

-- all that lies above
pub take_above : {A : Type 0} (xs ys : List A) → take (length (xs ++ ys) - length ys) (xs ++ ys) ≡ xs
take_above {A} xs ys = ap (λ (n : ℕ). take n (xs ++ ys)) (above xs ys) ∙ take_all xs ys
