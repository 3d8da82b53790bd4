-- The first line of a text.
use Rattle.std.proofs.Common.{◌≡◌, ℕ, ◌==◌, Bool, true, false, List, [], ◌∷◌, ◌++◌, refl, ap, ◌∙◌, sym, cond, append_assoc}
use Rattle.std.proofs.lemmas.List.Splits.{slice_split_at}
use Rattle.std.specs.List.{slice_split, onto_first}
use Rattle.path_checker.specs.Lines.{line_kind, lines_in, lines_of}
use Rattle.annotate.specs.Texts.{line}
use Rattle.path_checker.proofs.Lacking.{has, all_lack}

-- a list has a first part
pub parts_of : (test : ℕ → Bool) (xs : List ℕ)
    → (part : List ℕ) × (parts : List (List ℕ)) × (slice_split test xs ≡ part ∷ parts)
parts_of test [] = ([], [], refl)
parts_of test (x ∷ xs) =
    let deeper = parts_of test xs in
    elim (test x) as (λ b. (part : List ℕ) × (parts : List (List ℕ))
    × (cond b ([] ∷ slice_split test xs) (onto_first x (slice_split test xs)) ≡ part ∷ parts))
    [ true ↦ ([], slice_split test xs, refl) | false ↦ (x ∷ deeper.0, deeper.1, ap (onto_first x) deeper.2) ]

two_parts : (x part : List ℕ) (parts : List (List ℕ))
    → lines_in (x ∷ part ∷ parts) ≡ line_kind x ∷ lines_in (part ∷ parts)
two_parts [] part parts = refl
two_parts (b ∷ bs) part parts = refl

-- the first line of a text that begins with a line is this line, where it has no line feed of its own
pub line_first : (x rest : List ℕ) → has 10 x ≡ false → lines_of (line x ++ rest) ≡ line_kind x ∷ lines_of rest
line_first x rest free =
    let test : ℕ → Bool = λ b. b == 10 in
    let more = parts_of test rest in
    let split : slice_split test (x ++ 10 ∷ rest) ≡ x ∷ slice_split test rest =
    slice_split_at test x 10 rest (all_lack 10 x free) refl in
    ap lines_of (append_assoc x (10 ∷ []) rest) ∙ ap lines_in split
    ∙ ap (λ (pieces : List (List ℕ)). lines_in (x ∷ pieces)) more.2
    ∙ two_parts x more.0 more.1
    ∙ ap (λ (pieces : List (List ℕ)). line_kind x ∷ lines_in pieces) (sym more.2)
