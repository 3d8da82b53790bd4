-- How many marks are not set.
use Rattle.std.proofs.Common.{◌≡◌, ℕ, zero, suc, ◌<◌, Bool, true, false, List, [], ◌∷◌, length, get_or, set, arith}
use Rattle.error_path.specs.Marks.{unset}

-- setting a mark that is not set leaves fewer that are not set
pub unset_less : (marks : List Bool) (i : ℕ) → i < length marks → get_or marks i false ≡ false
    → unset (set marks i true) < unset marks
unset_less [] i within is = absurd (omega (arith, within))
unset_less (true ∷ marks) zero within is = absurd cc
unset_less (false ∷ marks) zero within is = omega arith
unset_less (true ∷ marks) (suc i) within is = unset_less marks i (omega (arith, within)) is
unset_less (false ∷ marks) (suc i) within is =
    let rest = unset_less marks i (omega (arith, within)) is in
    omega (arith, rest)
