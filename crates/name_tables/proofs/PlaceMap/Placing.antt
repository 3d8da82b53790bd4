-- Numbers that are set at places.
use Rattle.std.proofs.Common.{◌≡◌, ℕ, zero, suc, ◌+◌, ◌<◌, arith, Bool, true, false, ◌&&◌, nat_eq, List, [], ◌∷◌, length, slice_get, slice_index_or, slice_set, Option, Some, refl, sym, ◌∙◌, ap, if◌then◌else◌}
use Rattle.qual_base.proofs.Tests.{eq_is}
use Rattle.name_rules.specs.Spellings.{Place}
use Rattle.name_rules.specs.Scopes.{is_place}
use Rattle.name_tables.specs.PlaceMap.Values.{cell_in, or_empty, cell_at, number_of}
use Rattle.name_tables.proofs.PlaceMap.Cells.{get_set}

-- a number within a list has the item that is got there
there_at : {A : Type 0} (xs : List A) (n : ℕ) (x : A) → n < length xs → x ≡ slice_index_or xs n x
    → slice_get xs n ≡ Some x
there_at [] n x lt is = absurd (omega arith)
there_at (y ∷ xs) zero x lt is = ap Some (sym is)
there_at (y ∷ xs) (suc n) x lt is = there_at xs n x (omega arith) is

-- a row in which nothing changes
pub same_row : (before units : List (List ℕ)) (u n : ℕ) (row after : List ℕ)
    → ((p : Place) → cell_at units p ≡ cell_at before p) → u < length units → n ≡ u → row ≡ slice_index_or units n row
    → ((k : ℕ) → cell_in after k ≡ cell_in row k) → (p : Place)
    → number_of (cell_at (slice_set units n after) p) ≡ number_of (cell_at before p)
same_row before units u n row after same lt e is kept p =
    let within : n < length units = omega (arith, e, lt) in
    ap (λ (o : Option (List ℕ)). number_of (cell_in (or_empty o) p.1)) (get_set units n after within p.0)
    ∙ by_unit (nat_eq n p.0) refl within
  where
    by_unit : (b : Bool) → nat_eq n p.0 ≡ b → n < length units
        → number_of (cell_in (or_empty (if b then Some after else slice_get units p.0)) p.1)
        ≡ number_of (cell_at before p)
    by_unit false unit within = ap number_of (same p)
    by_unit true unit within =
        ap number_of
        (kept p.1 ∙ ap (λ (o : Option (List ℕ)). cell_in (or_empty o) p.1)
        (sym (there_at units n row within is) ∙ ap (λ (v : ℕ). slice_get units v) (eq_is n p.0 unit)) ∙ same p)

-- one token of one unit gets a number
pub numbered : (before units : List (List ℕ)) (at : Place) (n : ℕ) (row after : List ℕ) (number cell : ℕ)
    → ((p : Place) → cell_at units p ≡ cell_at before p) → at.0 < length units → n ≡ at.0
    → row ≡ slice_index_or units n row
    → ((k : ℕ) → cell_in after k ≡ (if nat_eq at.1 k then cell else cell_in row k)) → cell ≡ number + 1 → (p : Place)
    → number_of (cell_at (slice_set units n after) p)
    ≡ (if is_place at p then Some number else number_of (cell_at before p))
numbered before units at n row after number cell same lt e is written more p =
    ap (λ (u : ℕ). number_of (cell_at (slice_set units u after) p)) e
    ∙ ap (λ (o : Option (List ℕ)). number_of (cell_in (or_empty o) p.1)) (get_set units at.0 after lt p.0)
    ∙ by_unit (nat_eq at.0 p.0) refl
  where
    by_token : (b : Bool) → cell_in row p.1 ≡ cell_at before p
        → number_of (if b then cell else cell_in row p.1) ≡ (if b then Some number else number_of (cell_at before p))
    by_token true here = let next : cell ≡ suc number = omega (arith, more) in ap number_of next
    by_token false here = ap number_of here

    there : slice_get units at.0 ≡ Some row
    there = there_at units at.0 row lt (is ∙ ap (λ (u : ℕ). slice_index_or units u row) e)

    by_unit : (b : Bool) → nat_eq at.0 p.0 ≡ b
        → number_of (cell_in (or_empty (if b then Some after else slice_get units p.0)) p.1)
        ≡ (if b && nat_eq at.1 p.1 then Some number else number_of (cell_at before p))
    by_unit false unit = ap number_of (same p)
    by_unit true unit =
        let here : cell_in row p.1 ≡ cell_at before p =
        ap (λ (o : Option (List ℕ)). cell_in (or_empty o) p.1)
        (sym there ∙ ap (λ (u : ℕ). slice_get units u) (eq_is at.0 p.0 unit)) ∙ same p in
        ap number_of (written p.1) ∙ by_token (nat_eq at.1 p.1) here
