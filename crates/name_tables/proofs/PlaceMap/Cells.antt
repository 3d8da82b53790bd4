-- Rows that grow, and numbers that are written in them.
use Rattle.std.proofs.Common.{◌≡◌, ℕ, zero, suc, ◌<◌, ◌≤◌, arith, Bool, true, false, nat_eq, List, [], ◌∷◌, ◌++◌, length, replicate, slice_get, slice_set, take, Some, inl, inr, refl, sym, ◌∙◌, ap, if◌then◌else◌}
use Rattle.std.proofs.lemmas.Bool.Decides.{eqb_tells}
use Rattle.qual_base.proofs.Lists.{take_whole}
use Rattle.name_rules.specs.Spellings.{Place}
use Rattle.name_tables.specs.PlaceMap.Values.{or_zero, cell_in, or_empty, cell_at}

-- a row of zeros is zero everywhere, past its end too
zeros : (k n : ℕ) → or_zero (slice_get (replicate k 0) n) ≡ 0
zeros zero n = refl
zeros (suc k) zero = refl
zeros (suc k) (suc n) = zeros k n

-- zeros behind a row say nothing new
pub more_zeros : (row : List ℕ) (k n : ℕ) → cell_in (row ++ replicate k 0) n ≡ cell_in row n
more_zeros [] k n = zeros k n
more_zeros (c ∷ row) k zero = refl
more_zeros (c ∷ row) k (suc n) = more_zeros row k n

-- a row that goes on to more tokens
pub grown : (old new : List ℕ) (count k : ℕ) → length old ≤ count → new ≡ take count old ++ replicate k 0 → (n : ℕ)
    → cell_in new n ≡ cell_in old n
grown old new count k le is n =
    ap (λ row. cell_in row n) (is ∙ ap (λ row. row ++ replicate k 0) (take_whole old count le)) ∙ more_zeros old k n

-- an item set within a list is got there
get_same : {A : Type 0} (xs : List A) (n : ℕ) (x : A) → n < length xs → slice_get (slice_set xs n x) n ≡ Some x
get_same [] n x lt = absurd (omega arith)
get_same (y ∷ xs) zero x lt = refl
get_same (y ∷ xs) (suc n) x lt = get_same xs n x (omega arith)

-- an item set at one number changes none at another
get_other : {A : Type 0} (xs : List A) (n : ℕ) (x : A) (m : ℕ) → (n ≡ m → ⊥)
    → slice_get (slice_set xs n x) m ≡ slice_get xs m
get_other [] n x m other = refl
get_other (y ∷ xs) zero x zero other = absurd (other refl)
get_other (y ∷ xs) zero x (suc m) other = refl
get_other (y ∷ xs) (suc n) x zero other = refl
get_other (y ∷ xs) (suc n) x (suc m) other = get_other xs n x m (λ e. other (ap suc e))

-- what is read of a list one item of which is changed
pub get_set : {A : Type 0} (xs : List A) (n : ℕ) (x : A) → n < length xs → (m : ℕ)
    → slice_get (slice_set xs n x) m ≡ (if nat_eq n m then Some x else slice_get xs m)
get_set xs n x lt m = elim (eqb_tells n m) [
  | inl same ↦ ap (λ (k : ℕ). slice_get (slice_set xs n x) k) (sym same.1) ∙ get_same xs n x lt
      ∙ sym (ap (λ b. if b then Some x else slice_get xs m) same.0)
  | inr other ↦ get_other xs n x m other.1 ∙ sym (ap (λ b. if b then Some x else slice_get xs m) other.0)
]

-- one token's number is written
pub written : (old row new : List ℕ) (at cell : ℕ) → ((n : ℕ) → cell_in row n ≡ cell_in old n) → at < length row
    → new ≡ slice_set row at cell → (n : ℕ) → cell_in new n ≡ (if nat_eq at n then cell else cell_in old n)
written old row new at cell same lt is n =
    ap (λ cells. cell_in cells n) is ∙ ap or_zero (get_set row at cell lt n) ∙ by_test (nat_eq at n)
  where
    by_test : (b : Bool) → or_zero (if b then Some cell else slice_get row n) ≡ (if b then cell else cell_in old n)
    by_test true = refl
    by_test false = same n

-- a unit without numbers behind the others says nothing new
pub one_more : (units new : List (List ℕ)) → new ≡ units ++ [] ∷ [] → (p : Place) → cell_at new p ≡ cell_at units p
one_more units new is p = ap (λ us. cell_at us p) is ∙ behind units p.0
  where
    behind : (units : List (List ℕ)) (u : ℕ) → cell_in (or_empty (slice_get (units ++ [] ∷ []) u)) p.1
        ≡ cell_in (or_empty (slice_get units u)) p.1
    behind [] zero = refl
    behind [] (suc u) = refl
    behind (row ∷ units) zero = refl
    behind (row ∷ units) (suc u) = behind units u
