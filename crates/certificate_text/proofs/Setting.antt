-- The lines of sets, end by end.
use Rattle.std.proofs.Common.{◌≡◌, ℕ, zero, suc, ◌+◌, ◌<◌, ◌≤◌, List, [], ◌∷◌, ◌++◌, length, drop, slice_get, Some, refl, sym, ◌∙◌, ap, arith, append_assoc}
use Rattle.qual_base.proofs.Lists.{drop_past}
use Rattle.flow_graph.specs.System.{System}
use Rattle.closure_check.specs.declared.part.Part.{Part}
use Rattle.certificate_text.specs.Names.{Named, ends_in, named_at, names_from}
use Rattle.certificate_text.specs.declared.putting.SetLine.{SetLine}
use Rattle.certificate_text.specs.Text.{set_of, sets_of, set_text, sets_text}
use Rattle.certificate_text.proofs.EndLemmas.{drop_there}

-- the text of joined lists of sets is the joined texts
sets_text-append : (xs ys : List SetLine) → sets_text (xs ++ ys) ≡ sets_text xs ++ sets_text ys
sets_text-append [] ys = refl
sets_text-append (x ∷ xs) ys =
    ap (λ t. set_text x ++ t) (sets_text-append xs ys) ∙ sym (append_assoc (set_text x) (sets_text xs) (sets_text ys))

-- the sets of joined lists of names are the joined sets
sets_of-append : (part : Part) (xs ys : List Named) → sets_of part (xs ++ ys) ≡ sets_of part xs ++ sets_of part ys
sets_of-append part [] ys = refl
sets_of-append part (x ∷ xs) ys =
    ap (λ t. set_of part x ++ t) (sets_of-append part xs ys)
    ∙ sym (append_assoc (set_of part x) (sets_of part xs) (sets_of part ys))

-- the sets of names from an end on
abbrev pub sets_from : System → Part → ℕ → List ℕ
sets_from sys part k = sets_text (sets_of part (names_from sys k (drop k (ends_in sys))))

-- the set lines from an end on are that of its variable, where this is its name, and those from the next end on
pub sets_step : (sys : System) (part : Part) (k v : ℕ) → slice_get (ends_in sys) k ≡ Some v →
    sets_from sys part k ≡ sets_text (sets_of part (named_at sys k v)) ++ sets_from sys part (k + 1)
sets_step sys part k v there =
    let more : suc k ≡ k + 1 = omega arith in
    let rest : drop k (ends_in sys) ≡ v ∷ drop (k + 1) (ends_in sys) =
    drop_there (ends_in sys) k v there ∙ ap (λ j. v ∷ drop j (ends_in sys)) more in
    ap (λ xs. sets_text (sets_of part (names_from sys k xs))) rest
    ∙ ap sets_text (sets_of-append part (named_at sys k v) (names_from sys (k + 1) (drop (k + 1) (ends_in sys))))
    ∙ sets_text-append (sets_of part (named_at sys k v))
    (sets_of part (names_from sys (k + 1) (drop (k + 1) (ends_in sys))))

pub put_more : (out after total step rest whole : List ℕ) → out ++ whole ≡ total → whole ≡ step ++ rest
    → after ≡ out ++ step → after ++ rest ≡ total
put_more out after total step rest whole is parts puts =
    ap (λ t. t ++ rest) puts ∙ append_assoc out step rest ∙ ap (λ t. out ++ t) (sym parts) ∙ is

-- there is a variable at each end
pub end_there : (ends : List ℕ) (k : ℕ) → k < length ends → (v : ℕ) × (slice_get ends k ≡ Some v)
end_there [] k within = absurd (omega (arith, within))
end_there (v ∷ ends) zero within = (v, refl)
end_there (v ∷ ends) (suc k) within = end_there ends k (omega (arith, within))

-- behind the last end there are none
pub sets_none : (sys : System) (part : Part) (k : ℕ) → length (ends_in sys) ≤ k → sets_from sys part k ≡ []
sets_none sys part k past = ap (λ xs. sets_text (sets_of part (names_from sys k xs))) (drop_past (ends_in sys) k past)
