-- The numbers of numerals, read no higher than 2^32 - 1.
use Rattle.std.proofs.Common.{◌≡◌, ℕ, ◌+◌, ◌*◌, ◌-◌, ◌<◌, true, false, List, [], ◌∷◌, Some, None, option_map, length, get_or, drop, drop-cons, add-one, refl, sym, ◌∙◌, ap, arith, cond}
use Rattle.std.specs.Char.{is_ascii_digit}
use Rattle.path_checker.specs.Lines.{capped, number_behind}

pub capped_more : (v d : ℕ) → capped (10 * capped v + d) ≡ capped (10 * v + d)
capped_more v d = omega arith

-- digits behind a number and behind that number read no higher than 2^32 - 1 write the same, read so
pub number_behind-capped : (ds : List ℕ) (v w : ℕ) → capped v ≡ capped w
    → option_map capped (number_behind v ds) ≡ option_map capped (number_behind w ds)
number_behind-capped [] v w same = ap Some same
number_behind-capped (d ∷ ds) v w same =
    let further : capped (10 * v + (d - 48)) ≡ capped (10 * w + (d - 48)) =
    sym (capped_more v (d - 48)) ∙ ap (λ x. capped (10 * x + (d - 48))) same ∙ capped_more w (d - 48) in
    elim (is_ascii_digit d) as
    (λ b. option_map capped (cond b (number_behind (10 * v + (d - 48)) ds) None)
    ≡ option_map capped (cond b (number_behind (10 * w + (d - 48)) ds) None))
    [ true ↦ number_behind-capped ds _ _ further | false ↦ refl ]

-- one more digit
pub number_behind-digit : (ds : List ℕ) (i v : ℕ) → i < length ds → is_ascii_digit (get_or ds i 0) ≡ true →
    number_behind v (drop i ds) ≡ number_behind (10 * v + (get_or ds i 0 - 48)) (drop (i + 1) ds)
number_behind-digit ds i v below digit = rw (drop-cons ds i 0, add-one, digit) refl
