-- What begins at a place of its own is found there.
use Rattle.std.proofs.Common.{◌≡◌, ℕ, ◌+◌, Bool, true, false, List, [], ◌∷◌, ◌++◌, slice_get, unwrap_or, Option, None, Some, refl, sym, ap, subst, ◌∙◌, append_assoc}
use Rattle.std.specs.Prelude.{if◌then◌else◌}
use Rattle.type_table.specs.Types.{size}
use Rattle.qual_types.specs.Skel.{Skel, numbered}
use Rattle.name_rules.specs.Spellings.{Place}
use Rattle.name_rules.specs.Scopes.{Declared, NameUse, declared_at, is_place}
use Rattle.name_rules.specs.MeaningLaws.Meanings.{Differ}
use Rattle.name_rules.proofs.MeaningLaws.Lists.{place_is, place_itself}
use Rattle.row_rules.specs.Sites.{AreDifferent, has_place, place_of, site_places}
use Rattle.row_rules.specs.Starting.{Selection, Start, flag_among}
use Rattle.row_rules.specs.Worlds.{World, Numbered, numbered_from, skeleton_among}
use Rattle.missing_laws.specs.Finding.{AreFound, IsFound, IsSite}
use Rattle.missing_laws.specs.Programs.{declared_places, selection_places, start_places, use_places}
use Rattle.missing_laws.proofs.Chosen.{AreChosen}
use Rattle.missing_laws.proofs.Uses.{NoUse, UsesDiffer}

-- declarations and uses

-- at a place that no declaration has, nothing is declared
none_declared : (ds : List Declared) (p : Place) → has_place (declared_places ds) p ≡ false → declared_at ds p ≡ None
none_declared [] p e = refl
none_declared (d ∷ ds) p e = by (is_place d.at p) e (none_declared ds p)
  where
    by : (b : Bool) → (if b then true else has_place (declared_places ds) p) ≡ false →
        (has_place (declared_places ds) p ≡ false → declared_at ds p ≡ None) →
        (if b then Some d else declared_at ds p) ≡ None
    by true e next = absurd cc
    by false e next = next e

pub declared_differ : (ds : List Declared) → AreDifferent (declared_places ds) → Differ ds
declared_differ [] h = tt
declared_differ (d ∷ ds) h = (none_declared ds d.at h.0, declared_differ ds h.1)

-- at a place that no use has, there is no use
no_use : (uses : List NameUse) (p : Place) → has_place (use_places uses) p ≡ false → NoUse uses p
no_use [] p e = tt
no_use (it ∷ uses) p e = by (is_place it.at p) e (no_use uses p)
  where
    by : (b : Bool) → (if b then true else has_place (use_places uses) p) ≡ false →
        (has_place (use_places uses) p ≡ false → NoUse uses p) → (b ≡ false) × NoUse uses p
    by true e next = absurd cc
    by false e next = (refl, next e)

pub uses_differ : (uses : List NameUse) → AreDifferent (use_places uses) → UsesDiffer uses
uses_differ [] h = tt
uses_differ (it ∷ uses) h = (no_use uses it.at h.0, uses_differ uses h.1)

-- skeletons

-- a place that none of some skeletons has is not that of one among them
other : (xs ys : List Start) (x : Start) (p : Place) → has_place (start_places (xs ++ x ∷ ys)) p ≡ false →
    is_place p x.at ≡ true → ⊥
other xs ys x p e is = clash xs (subst (λ (q : Place). is_place x.at q ≡ true) (sym (place_is p x.at is))
    (place_itself x.at)) e
  where
    clash : (xs : List Start) → is_place x.at p ≡ true → has_place (start_places (xs ++ x ∷ ys)) p ≡ false → ⊥
    clash [] there e = first (is_place x.at p) there e
      where
        first : (b : Bool) → b ≡ true → (if b then true else has_place (start_places ys) p) ≡ false → ⊥
        first true there e = absurd cc
        first false there e = absurd cc
    clash (z ∷ xs) there e = later (is_place z.at p) e (clash xs there)
      where
        later : (b : Bool) → (if b then true else has_place (start_places (xs ++ x ∷ ys)) p) ≡ false →
            (has_place (start_places (xs ++ x ∷ ys)) p ≡ false → ⊥) → ⊥
        later true e next = absurd cc
        later false e next = next e

found_where : (b : Bool) (x y z : Skel) → (b ≡ true → ⊥) → y ≡ z → (if b then x else y) ≡ z
found_where true x y z g h = absurd (g refl)
found_where false x y z g h = h

-- where skeletons begin at different places, at the place of one the skeleton found is of its type
begun : (xs ys : List Start) (x : Start) (n : ℕ) → AreDifferent (start_places (xs ++ x ∷ ys)) →
    (m : ℕ) × (skeleton_among (numbered_from n (xs ++ x ∷ ys)) x.at ≡ numbered x.type m)
begun [] ys x n h = (
  n,
  ap (λ (b : Bool). if b then numbered x.type n
      else skeleton_among (numbered_from (n + size x.type) ys) x.at) (place_itself x.at),
)
begun (z ∷ xs) ys x n h = let one = begun xs ys x (n + size z.type) h.1 in (
  one.0,
  found_where (is_place z.at x.at) (numbered z.type n) _ (numbered x.type one.0)
      (λ e. other xs ys x z.at h.0 e) one.1,
)

-- a place of the second of two lists is in both together
has_right : (ps qs : List Place) (p : Place) → has_place qs p ≡ true → has_place (ps ++ qs) p ≡ true
has_right [] qs p h = h
has_right (r ∷ ps) qs p h = by (is_place r p) (has_right ps qs p h)
  where
    by : (b : Bool) → has_place (ps ++ qs) p ≡ true → (if b then true else has_place (ps ++ qs) p) ≡ true
    by true h = refl
    by false h = h

-- the place of a skeleton that calls a function is among the call sites
site_there : (xs ys : List Start) (x : Start) (f : Place) → x.calls ≡ Some f →
    has_place (site_places (xs ++ x ∷ ys)) x.at ≡ true
site_there [] ys x f e = subst (λ (o : Option Place). has_place (place_of x o ++ site_places ys) x.at ≡ true) (sym e)
    (ap (λ (b : Bool). if b then true else has_place (site_places ys) x.at) (place_itself x.at))
site_there (z ∷ xs) ys x f e = has_right (place_of z z.calls) (site_places (xs ++ x ∷ ys)) x.at (site_there xs ys x f e)

module _ (w : World) (starts : List Start) (skeletons_are : w.skeletons ≡ numbered_from 0 starts)
    (sites_are : w.sites ≡ site_places starts) (differ : AreDifferent (start_places starts)) where
  one_found : (xs ys : List Start) (x : Start) → starts ≡ xs ++ x ∷ ys → IsFound w x
  one_found xs ys x e = (
    let one = begun xs ys x 0 (subst (λ (its : List Start). AreDifferent (start_places its)) e differ) in (
      one.0,
      ap (λ (its : List Numbered). skeleton_among its x.at) skeletons_are
          ∙ (ap (λ (its : List Start). skeleton_among (numbered_from 0 its) x.at) e ∙ one.1),
    ),
    site x.calls refl,
  )
    where
      site : (o : Option Place) → x.calls ≡ o → IsSite w o x.at
      site None is = tt
      site (Some f) is = ap (λ (places : List Place). has_place places x.at) sites_are
          ∙ (ap (λ (its : List Start). has_place (site_places its) x.at) e ∙ site_there xs ys x f is)

  pub all_found : (xs mid ys : List Start) → starts ≡ xs ++ (mid ++ ys) → AreFound w mid
  all_found xs [] ys e = tt
  all_found xs (x ∷ mid) ys e = (
    one_found xs (mid ++ ys) x e,
    all_found (xs ++ x ∷ []) mid ys (e ∙ sym (append_assoc xs (x ∷ []) (mid ++ ys))),
  )

-- selections

-- a place that none of some selections has is not that of one among them
other_selection : (xs ys : List Selection) (x : Selection) (p : Place) →
    has_place (selection_places (xs ++ x ∷ ys)) p ≡ false → is_place p x.at ≡ true → ⊥
other_selection xs ys x p e is = clash xs (subst (λ (q : Place). is_place x.at q ≡ true) (sym (place_is p x.at is))
    (place_itself x.at)) e
  where
    clash : (xs : List Selection) → is_place x.at p ≡ true → has_place (selection_places (xs ++ x ∷ ys)) p ≡ false → ⊥
    clash [] there e = first (is_place x.at p) there e
      where
        first : (b : Bool) → b ≡ true → (if b then true else has_place (selection_places ys) p) ≡ false → ⊥
        first true there e = absurd cc
        first false there e = absurd cc
    clash (z ∷ xs) there e = later (is_place z.at p) e (clash xs there)
      where
        later : (b : Bool) → (if b then true else has_place (selection_places (xs ++ x ∷ ys)) p) ≡ false →
            (has_place (selection_places (xs ++ x ∷ ys)) p ≡ false → ⊥) → ⊥
        later true e next = absurd cc
        later false e next = next e

flag_where : (b x y z : Bool) → (b ≡ true → ⊥) → y ≡ z → (if b then x else y) ≡ z
flag_where true x y z g h = absurd (g refl)
flag_where false x y z g h = h

-- where selections are at different places, the flags at the place of one are its own
flag_there : (xs ys : List Selection) (x : Selection) (n : ℕ) → AreDifferent (selection_places (xs ++ x ∷ ys)) →
    flag_among (xs ++ x ∷ ys) x.at n ≡ unwrap_or (slice_get x.flags n) false
flag_there [] ys x n h =
    ap (λ (b : Bool). if b then unwrap_or (slice_get x.flags n) false else flag_among ys x.at n) (place_itself x.at)
flag_there (z ∷ xs) ys x n h = flag_where (is_place z.at x.at) (unwrap_or (slice_get z.flags n) false) _
    (unwrap_or (slice_get x.flags n) false) (λ e. other_selection xs ys x z.at h.0 e) (flag_there xs ys x n h.1)

module _ (w : World) (all : List Selection)
    (candidates_are : (p : Place) (n : ℕ) → w.candidate p n ≡ flag_among all p n)
    (differ : AreDifferent (selection_places all)) where
  pub all_chosen : (xs mid ys : List Selection) → all ≡ xs ++ (mid ++ ys) → AreChosen w mid
  all_chosen xs [] ys e = tt
  all_chosen xs (x ∷ mid) ys e = (
    λ n. candidates_are x.at n ∙ (ap (λ (its : List Selection). flag_among its x.at n) e
        ∙ flag_there xs (mid ++ ys) x n
        (subst (λ (its : List Selection). AreDifferent (selection_places its)) e differ)),
    all_chosen (xs ++ x ∷ []) mid ys (e ∙ sym (append_assoc xs (x ∷ []) (mid ++ ys))),
  )
