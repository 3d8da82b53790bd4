-- The numbers of numerals, read no higher than 2^128 - 1.
use Rattle.std.proofs.Common.{◌≡◌, ℕ, ◌+◌, ◌*◌, ◌-◌, ◌^◌, min, true, false, List, [], ◌∷◌, Some, None, option_map, refl, sym, ◌∙◌, ap, arith, cond}
use Rattle.std.specs.Char.{is_ascii_digit}
use Rattle.path_checker.specs.Lines.{number_behind}

abbrev pub capped : ℕ → ℕ
capped n = min n (2 ^ 128 - 1)

pub capped_more : (v d : ℕ) → capped (10 * capped v + d) ≡ capped (10 * v + d)
capped_more v d = omega arith

-- digits behind a number and behind that number read no higher than 2^128 - 1 write the same, read so
pub number_behind-capped : (ds : List ℕ) (v w : ℕ) → capped v ≡ capped w
    → option_map capped (number_behind v ds) ≡ option_map capped (number_behind w ds)
number_behind-capped [] v w same = ap Some same
number_behind-capped (d ∷ ds) v w same =
    let further : capped (10 * v + (d - 48)) ≡ capped (10 * w + (d - 48)) =
    sym (capped_more v (d - 48)) ∙ ap (λ x. capped (10 * x + (d - 48))) same ∙ capped_more w (d - 48) in
    elim (is_ascii_digit d) as
    (λ b. option_map capped (cond b (number_behind (10 * v + (d - 48)) ds) None)
    ≡ option_map capped (cond b (number_behind (10 * w + (d - 48)) ds) None))
    [ true ↦ number_behind-capped ds _ _ further | false ↦ refl ]
