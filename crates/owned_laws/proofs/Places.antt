-- Lists of skeletons, by the places at which they begin.
use Rattle.std.proofs.Common.{◌≡◌, Bool, true, false, List, [], ◌∷◌, ◌++◌, Option, None, Some, refl, sym, ◌∙◌, ap, subst, append_assoc}
use Rattle.std.specs.Prelude.{if◌then◌else◌}
use Rattle.name_rules.specs.Spellings.{Place}
use Rattle.name_rules.specs.Scopes.{is_place}
use Rattle.row_rules.specs.Starting.{Start}
use Rattle.row_rules.specs.Sites.{AreDifferent, has_place, place_of, site_places}
use Rattle.owned_laws.specs.OwnerLaws.Fitting.{start_at}
use Rattle.owned_laws.proofs.ScopeLaws.Places.{has_not, has_not_left, has_not_right, differ_left, differ_right, differ_apart, differ_joined}

-- joined lists

-- where nothing begins at a place in a first list, joined lists begin there what the second does
pub none_before : (xs ys : List Start) (p : Place) → start_at xs p ≡ None → start_at (xs ++ ys) p ≡ start_at ys p
none_before [] ys p e = refl
none_before (x ∷ xs) ys p e = by (is_place x.at p) e (none_before xs ys p)
  where
    by : (b : Bool) → (if b then Some x else start_at xs p) ≡ None →
        (start_at xs p ≡ None → start_at (xs ++ ys) p ≡ start_at ys p) →
        (if b then Some x else start_at (xs ++ ys) p) ≡ start_at ys p
    by true e more = absurd cc
    by false e more = more e

-- where nothing begins at a place in a second list, joined lists begin there what the first does
pub none_behind : (xs ys : List Start) (p : Place) → start_at ys p ≡ None → start_at (xs ++ ys) p ≡ start_at xs p
none_behind [] ys p e = e
none_behind (x ∷ xs) ys p e =
    ap (λ (o : Option Start). if is_place x.at p then Some x else o) (none_behind xs ys p e)

-- the sites of two lists of skeletons in a row are those of the first, then those of the second
sites_joined : (xs ys : List Start) → site_places (xs ++ ys) ≡ site_places xs ++ site_places ys
sites_joined [] ys = refl
sites_joined (x ∷ xs) ys =
    ap (λ (ps : List Place). place_of x x.calls ++ ps) (sites_joined xs ys)
    ∙ sym (append_assoc (place_of x x.calls) (site_places xs) (site_places ys))

-- The skeletons begin at these places alone, and the call sites among them at different ones, where the places differ.
pub record Kept (places : List Place) (starts : List Start) : Type 0 where
  pub begins : (p : Place) → has_place places p ≡ false → start_at starts p ≡ None
  pub sites : (p : Place) → has_place places p ≡ false → has_place (site_places starts) p ≡ false
  pub differ : AreDifferent places → AreDifferent (site_places starts)

pub none_kept : Kept [] []
none_kept = record { begins = λ p e. refl; sites = λ p e. refl; differ = λ h. tt }

-- skeletons that begin at given places, and others that do so at others, together begin at both
pub joined_kept : (ps qs : List Place) (xs ys : List Start) → Kept ps xs → Kept qs ys → Kept (ps ++ qs) (xs ++ ys)
joined_kept ps qs xs ys h k = record {
  begins = λ p e. none_before xs ys p (h.begins p (has_not_left ps qs p e)) ∙ k.begins p (has_not_right ps qs p e);
  sites = λ p e. ap (λ (sites : List Place). has_place sites p) (sites_joined xs ys)
      ∙ has_not (site_places xs) (site_places ys) p (h.sites p (has_not_left ps qs p e))
      (k.sites p (has_not_right ps qs p e));
  differ = λ d. subst AreDifferent (sym (sites_joined xs ys))
      (differ_joined (site_places xs) (site_places ys) (h.differ (differ_left ps qs d))
      (k.differ (differ_right ps qs d)) (λ p e. k.sites p (differ_apart ps qs p d (there p e))));
} where
  there : (p : Place) → has_place (site_places xs) p ≡ true → has_place ps p ≡ true
  there p e = by (has_place ps p) refl
    where
      by : (b : Bool) → has_place ps p ≡ b → b ≡ true
      by true d = refl
      by false d = let none = h.sites p d in absurd cc

-- at most one, which begins at the place
abbrev pub OneAt : Place → List Start → Type 0
OneAt p [] = Unit {0}
OneAt p (x ∷ []) = x.at ≡ p
OneAt p (x ∷ (y ∷ xs)) = ⊥

single_sites : (x : Start) (p q : Place) (calls : Option Place) → x.at ≡ p → has_place (p ∷ []) q ≡ false →
    has_place (place_of x calls ++ []) q ≡ false
single_sites x p q None e d = refl
single_sites x p q (Some f) e d = subst (λ (r : Place). has_place (r ∷ []) q ≡ false) (sym e) d

single_differ : (x : Start) (calls : Option Place) → AreDifferent (place_of x calls ++ [])
single_differ x None = tt
single_differ x (Some f) = (refl, tt)

-- at most one skeleton, at a place, begins at no place but that
pub one_kept : (p : Place) (xs : List Start) → OneAt p xs → Kept (p ∷ []) xs
one_kept p [] h = record { begins = λ q e. refl; sites = λ q e. refl; differ = λ d. tt }
one_kept p (x ∷ []) h = record {
  begins = λ q e. none q (is_place x.at q) (is_place p q) (ap (λ (r : Place). is_place r q) h) e;
  sites = λ q e. single_sites x p q x.calls h e;
  differ = λ d. single_differ x x.calls;
} where
  none : (q : Place) (a b : Bool) → a ≡ b → (if b then true else false) ≡ false → (if a then Some x else None) ≡ None
  none q true true e d = absurd cc
  none q false b e d = refl
  none q true false e d = absurd cc
one_kept p (x ∷ (y ∷ xs)) h = absurd h
