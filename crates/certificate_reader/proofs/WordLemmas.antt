-- Lines of too many words.
use Rattle.std.proofs.Common.{◌≡◌, ℕ, ◌==◌, Bool, true, false, List, [], ◌∷◌, refl, ap, cond}
use Rattle.std.specs.List.{slice_split, onto_first}
use Rattle.certificate_reader.specs.declared.lines.Line.TheVariants.{Other}
use Rattle.certificate_reader.specs.Lines.{set_kind, pair_kind}

-- there is a first word
pub split_parts : (test : ℕ → Bool) (xs : List ℕ)
    → (part : List ℕ) × (parts : List (List ℕ)) × (slice_split test xs ≡ part ∷ parts)
split_parts test [] = ([], [], refl)
split_parts test (x ∷ xs) =
    let deeper = split_parts test xs in
    elim (test x) as (λ b. (part : List ℕ) × (parts : List (List ℕ))
    × (cond b ([] ∷ slice_split test xs) (onto_first x (slice_split test xs)) ≡ part ∷ parts))
    [ true ↦ ([], slice_split test xs, refl) | false ↦ (x ∷ deeper.0, deeper.1, ap (onto_first x) deeper.2) ]

pub no_pair : (a b rest : List ℕ) → pair_kind (a ∷ b ∷ slice_split (λ c. c == 32) rest) ≡ Other
no_pair a b rest = rw (split_parts (λ c. c == 32) rest).2 refl

pub no_set : (a b d rest : List ℕ) → set_kind (a ∷ b ∷ d ∷ slice_split (λ c. c == 32) rest) ≡ Other
no_set a b d rest = rw (split_parts (λ c. c == 32) rest).2 refl
