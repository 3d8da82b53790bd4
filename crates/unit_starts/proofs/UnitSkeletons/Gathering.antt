-- All functions, declaration by declaration.
use Rattle.std.proofs.Common.{◌≡◌, ℕ, ◌+◌, ◌<◌, Bool, true, false, List, [], ◌∷◌, ◌++◌, length, drop, map, slice_index_or, sym, ◌∙◌, ap, append_assoc, if◌then◌else◌}
use Rattle.name_rules.specs.Spellings.{Place}
use Rattle.name_rules.specs.Scopes as rules
use Rattle.row_rules.specs.Sites.{is_first_function, functions_among}
use Rattle.unit_starts.proofs.UnitSkeletons.Placing.{one_left}

-- one declaration more
pub functions_next : {A : Type 0} (link : Place → Place) (bodies : List Place) (f : A → rules.Declared) (all : List A)
    (i : ℕ) (x : A)
    (found new : List Place) (b : Bool) → i < length all → x ≡ slice_index_or all i x
    → b ≡ is_first_function bodies (f x)
    → new ≡ (if b then found ++ link (f x).at ∷ [] else found)
    → new ++ map link (functions_among bodies (map f (drop (i + 1) all))) ≡ found
    ++ map link (functions_among bodies (map f (drop i all)))
functions_next link bodies f all i x found new b lt there tested made =
    by_test b made
    ∙ ap (λ (t : Bool). found ++ map link (if t then (f x).at ∷ rest else rest)) tested
    ∙ ap (λ (ds : List rules.Declared). found ++ map link (functions_among bodies ds))
    (sym (one_left f all i x lt there))
  where
    rest : List Place
    rest = functions_among bodies (map f (drop (i + 1) all))

    by_test : (t : Bool) → new ≡ (if t then found ++ link (f x).at ∷ [] else found)
        → new ++ map link rest ≡ found ++ map link (if t then (f x).at ∷ rest else rest)
    by_test true is =
        ap (λ (l : List Place). l ++ map link rest) is ∙ append_assoc found (link (f x).at ∷ []) (map link rest)
    by_test false is = ap (λ (l : List Place). l ++ map link rest) is
