-- How many marks are set.
use Rattle.std.proofs.Common.{◌≡◌, ℕ, zero, suc, ◌+◌, ◌<◌, ◌≤◌, Bool, true, false, List, [], ◌∷◌, length, get_or, set, arith, refl, ap}
use Rattle.lattice_solver.specs.Stack.{marked}

-- no more marks are set than there are
pub marked_most : (marks : List Bool) → marked marks ≤ length marks
marked_most [] = omega arith
marked_most (true ∷ marks) = let rest = marked_most marks in omega (arith, rest)
marked_most (false ∷ marks) = let rest = marked_most marks in omega (arith, rest)

-- where a mark is not set there is room for one more
pub marked_less : (marks : List Bool) (i : ℕ) → i < length marks → get_or marks i false ≡ false
    → marked marks < length marks
marked_less [] i within is = absurd (omega (arith, within))
marked_less (true ∷ marks) zero within is = absurd cc
marked_less (false ∷ marks) zero within is = let rest = marked_most marks in omega (arith, rest)
marked_less (true ∷ marks) (suc i) within is =
    let rest = marked_less marks i (omega (arith, within)) is in
    omega (arith, rest)
marked_less (false ∷ marks) (suc i) within is =
    let rest = marked_less marks i (omega (arith, within)) is in
    omega (arith, rest)

-- setting a mark that is not set makes one more that is set
pub marked_set : (marks : List Bool) (i : ℕ) → i < length marks → get_or marks i false ≡ false
    → marked (set marks i true) ≡ marked marks + 1
marked_set [] i within is = absurd (omega (arith, within))
marked_set (true ∷ marks) zero within is = absurd cc
marked_set (false ∷ marks) zero within is = refl
marked_set (true ∷ marks) (suc i) within is = ap (λ (n : ℕ). n + 1) (marked_set marks i (omega (arith, within)) is)
marked_set (false ∷ marks) (suc i) within is = marked_set marks i (omega (arith, within)) is

-- taking a mark away leaves at most one fewer that is set
pub marked_unset : (marks : List Bool) (i : ℕ) → marked marks ≤ marked (set marks i false) + 1
marked_unset [] i = omega arith
marked_unset (true ∷ marks) zero = omega arith
marked_unset (false ∷ marks) zero = omega arith
marked_unset (true ∷ marks) (suc i) = let rest = marked_unset marks i in omega (arith, rest)
marked_unset (false ∷ marks) (suc i) = marked_unset marks i
