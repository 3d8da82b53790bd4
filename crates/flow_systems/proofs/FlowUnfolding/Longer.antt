-- Longer lists of sites from shorter ones.
use Rattle.std.proofs.Common.{◌≡◌, ℕ, ◌+◌, ◌<◌, ◌≤◌, List, [], ◌∷◌, ◌++◌, length, get_or, slice_get, Some, refl, sym, ◌∙◌, ap, subst, arith, inl, inr}
use Rattle.std.specs.List.{Contains}
use Rattle.std.proofs.lemmas.Bool.{cases_lt}
use Rattle.std.proofs.lemmas.Option.{slice_get_read, get_or_from_slice_get}
use Rattle.std.proofs.lemmas.List.Elements.{Contains-push, Contains-append_left}
use Rattle.flow_systems.specs.FlowUnfolding.Strings.{HasAll}

-- a string that a list has is still there when one more comes behind
pub kept_push : (old new : List (List ℕ)) (y w : List ℕ) → new ≡ old ++ y ∷ [] → Contains old w → Contains new w
kept_push old new y w is there =
    let Has : List (List ℕ) → Type 0 = λ k. Contains k w in
    subst Has (sym is) (Contains-append_left old (y ∷ []) w there)

-- pushing one more string with the site in front adds it to those that were added
pub added_push : (old new strings : List (List ℕ)) (site i : ℕ) (x y : List ℕ) → new ≡ old ++ y ∷ [] → y ≡ site ∷ x
    → x ≡ get_or strings i x →
    ((k : ℕ) (w : List ℕ) → k < i → slice_get strings k ≡ Some w → Contains old (site ∷ w)) →
    (k : ℕ) (w : List ℕ) → k < i + 1 → slice_get strings k ≡ Some w → Contains new (site ∷ w)
added_push old new strings site i x y longer is item before k w less at = elim (cases_lt k i) [
  | inl earlier ↦ kept_push old new y (site ∷ w) longer (before k w earlier at)
  | inr late ↦
      let same : k ≡ i = omega (arith, less, late) in
      let first : get_or strings k x ≡ w = get_or_from_slice_get strings k w x at in
      let one : x ≡ w = item ∙ ap (λ j. get_or strings j x) (sym same) ∙ first in
      let Has : List (List ℕ) → Type 0 = λ k. Contains k (site ∷ w) in
      let New : List ℕ → Type 0 = λ k. Contains (old ++ y ∷ []) k in
      subst Has (sym longer) (subst New (is ∙ ap (λ z. site ∷ z) one) (Contains-push old y))
]

-- strings with a site put before each are all there when the last was added
pub added_all : (strings all : List (List ℕ)) (site i : ℕ) → length strings ≤ i →
    ((k : ℕ) (w : List ℕ) → k < i → slice_get strings k ≡ Some w → Contains all (site ∷ w)) → (w : List ℕ)
    → Contains strings w → Contains all (site ∷ w)
added_all strings all site i end added w there =
    added there.0 w (omega (arith, end, there.1))
    (slice_get_read strings (length strings) there.0 w refl there.1 (sym there.2))

-- the empty string alone is all strings of no site
pub all_none : (strings : List (List ℕ)) (x : List ℕ) (count : ℕ) → strings ≡ x ∷ [] → x ≡ [] → HasAll strings count 0
all_none strings x count one is [] below short =
    let Has : List (List ℕ) → Type 0 = λ k. Contains k [] in
    let First : List ℕ → Type 0 = λ k. Contains (k ∷ []) [] in
    let first : First [] = (0, omega arith, refl) in subst Has (sym one) (subst First (sym is) first)
all_none strings x count one is (s ∷ w) below short = absurd (omega (arith, short))

-- all strings of a depth, with each site before them, are those of the next depth
pub all_longer : (strings all : List (List ℕ)) (count depth : ℕ) → HasAll strings count depth → Contains all [] →
    ((s : ℕ) (w : List ℕ) → s < count → Contains strings w → Contains all (s ∷ w)) → HasAll all count (depth + 1)
all_longer strings all count depth has empty added [] below short = empty
all_longer strings all count depth has empty added (s ∷ w) below short =
    added s w below.0 (has w below.1 (omega (arith, short)))

-- what is true of the first strings and of the next one is true of one string more
pub true_more : (P : List ℕ → Type 0) (strings : List (List ℕ)) (i : ℕ) (x : List ℕ) → x ≡ get_or strings i x →
    ((k : ℕ) (w : List ℕ) → k < i → slice_get strings k ≡ Some w → P w) → P x → (k : ℕ) (w : List ℕ) → k < i + 1
    → slice_get strings k ≡ Some w → P w
true_more P strings i x item before here k w less at = elim (cases_lt k i) [
  | inl earlier ↦ before k w earlier at
  | inr late ↦
      let same : k ≡ i = omega (arith, less, late) in
      let first : get_or strings k x ≡ w = get_or_from_slice_get strings k w x at in
      subst P (item ∙ ap (λ j. get_or strings j x) (sym same) ∙ first) here
]
