-- What the lines of a report are.
use Rattle.std.proofs.Common.{◌≡◌, ℕ, ◌-◌, ◌^◌, ◌<◌, ◌==◌, Bool, false, List, ◌∷◌, ◌++◌, Option, None, refl, ap, ◌∙◌, arith, codes, decimal, ne_eqb}
use Rattle.std.proofs.lemmas.List.Splits.{slice_split_at}
use Rattle.std.specs.List.{slice_split}
use Rattle.path_checker.specs.declared.lines.Line.TheVariants.{Rejected, Error, Sub, Path, Take, Through}
use Rattle.path_checker.specs.Lines.{capped, line_kind, behind, step_kind, by_sub, sub_line, through_line, take_line, first_word}
use Rattle.path_checker.proofs.Lacking.{all_lack, decimal_lacks}
use Rattle.path_checker.proofs.Decimals.{decimal_is_read, decimal_writes}
use Rattle.report_laws.proofs.Cutting.{parts_of}

capped_same : (n : ℕ) → n < 2 ^ 32 - 1 → capped n ≡ n
capped_same n small = omega arith

pub rejected_kind : line_kind (codes "rejected") ≡ Rejected
unfolding line_kind
rejected_kind = refl

pub path_kind : line_kind (codes "path") ≡ Path
unfolding line_kind
path_kind = refl

pub error_kind : (x : List ℕ) → line_kind (codes "error " ++ x) ≡ Error
unfolding line_kind behind
error_kind x = refl

pub sub_kind : (n : ℕ) → n < 2 ^ 32 - 1 → line_kind (codes "sub " ++ decimal n) ≡ Sub n
unfolding line_kind behind
sub_kind n small = ap sub_line (decimal_is_read n (omega (arith, small))) ∙ ap Sub (capped_same n small)

pub through_kind : (n : ℕ) → n < 2 ^ 32 - 1 → line_kind (codes "  sub " ++ decimal n) ≡ Through n
unfolding line_kind behind step_kind
through_kind n small = ap through_line (decimal_is_read n (omega (arith, small))) ∙ ap Through (capped_same n small)

-- a text that begins with a digit is no number of a sub-path
no_sub : (d : ℕ) (rest : List ℕ) → d < 58 → behind (codes "sub ") (d ∷ rest) ≡ None
unfolding behind
no_sub d rest digit =
    let other : (d == 115) ≡ false = ne_eqb d 115 (λ same. omega (arith, digit, same)) in
    rw other refl

two_words : (n : ℕ) (word : List ℕ) (pieces : List (List ℕ))
    (more : (part : List ℕ) × (parts : List (List ℕ)) × (pieces ≡ part ∷ parts)) →
    first_word (word ∷ pieces) ≡ first_word (word ∷ more.0 ∷ more.1)
two_words n word pieces more = ap (λ (ps : List (List ℕ)). first_word (word ∷ ps)) more.2

-- a number below the limit with a space behind it is read as the step that takes this constraint
numbered : (n : ℕ) (x : List ℕ) → n < 2 ^ 32 - 1
    → first_word (slice_split (λ b. b == 32) (decimal n ++ 32 ∷ x)) ≡ Take n
numbered n x small =
    let test : ℕ → Bool = λ b. b == 32 in
    let more = parts_of test x in
    ap first_word
    (slice_split_at test (decimal n) 32 x (all_lack 32 (decimal n) (decimal_lacks 32 n (omega arith))) refl)
    ∙ two_words n (decimal n) (slice_split test x) more
    ∙ ap take_line (decimal_is_read n (omega (arith, small)))
    ∙ ap Take (capped_same n small)

-- a text that begins with a number is no line of a sub-path
begins_so : (n : ℕ) (x : List ℕ) → n < 2 ^ 32 - 1 → behind (codes "sub ") (decimal n ++ 32 ∷ x) ≡ None
begins_so n x small =
    let w = decimal_writes n (omega (arith, small)) in
    ap (λ (ds : List ℕ). behind (codes "sub ") (ds ++ 32 ∷ x)) w.parts ∙ no_sub w.first (w.rest ++ 32 ∷ x) w.high

pub take_kind : (n : ℕ) (x : List ℕ) → n < 2 ^ 32 - 1 → line_kind (codes "  " ++ (decimal n ++ 32 ∷ x)) ≡ Take n
unfolding line_kind behind step_kind
take_kind n x small =
    ap (λ (found : Option (List ℕ)). by_sub found (decimal n ++ 32 ∷ x)) (begins_so n x small) ∙ numbered n x small
