-- Places, one more declaration at a place, and what it leaves as it is.
use Rattle.std.proofs.Common.{◌≡◌, ℕ, zero, suc, Bool, true, false, List, [], ◌∷◌, ◌++◌, slice_get, Option, None, Some, nat_eq, refl, sym, ◌∙◌, ap, subst}
use Rattle.std.specs.Prelude.{◌&&◌, if◌then◌else◌}
use Rattle.std.proofs.lemmas.Bool.{and_parts, eq-eqb, eqb-true}
use Rattle.name_rules.specs.Spellings.{Place}
use Rattle.name_rules.specs.Scopes.{Meaning, means_type, means_thing, Scope, Declared, declared_at, Use, means, called, missing, NameUse, Own, Known, Body, StructKey, Aggregate, Names, is_place, thing_named, thing_of, or_place, meaning_in, some_thing, or_outer, meaning_through, innermost, outer_scopes, changed_at, or_no_body, body_of, body_of_some, lying_in}
use Rattle.name_rules.specs.Units.{is_shared, shared_name, shared}
use Rattle.name_rules.specs.Uses.{use_at}
use Rattle.name_rules.specs.Values.{known_named, member_in, own_of}
use Rattle.name_rules.specs.MeaningLaws.Meanings.{Differ, MeaningIs, NamesAre, ScopesAre, ThingsAre, KeptIs, UseIs, UsesAre, OwnAre, KnownAre, SomeBodyIs, AggregatesAre}

pub place_itself : (p : Place) → is_place p p ≡ true
place_itself p = rw (eq-eqb p.0 p.0 refl, eq-eqb p.1 p.1 refl) refl

-- places that pass the test for being the same are equal
pub place_is : (p q : Place) → is_place p q ≡ true → p ≡ q
place_is p q e =
    let both = and_parts (nat_eq p.0 q.0) (nat_eq p.1 q.1) e in
    ap (λ (n : ℕ). pair n p.1) (eqb-true p.0 q.0 both.0) ∙ ap (λ (n : ℕ). pair q.0 n) (eqb-true p.1 q.1 both.1)
  where
    pair : ℕ → ℕ → Place
    pair m n = (m, n)

-- the declaration that is found at a place is at that place
pub declared_place : (ds : List Declared) (p : Place) (d : Declared) → declared_at ds p ≡ Some d → d.at ≡ p
declared_place [] p d e = absurd cc
declared_place (other ∷ ds) p d e = by (is_place other.at p) (place_is other.at p) e (declared_place ds p d)
  where
    by : (b : Bool) → (b ≡ true → other.at ≡ p) → (if b then Some other else declared_at ds p) ≡ Some d →
        (declared_at ds p ≡ Some d → d.at ≡ p) → d.at ≡ p
    by true is e more = let same : other ≡ d = cc in subst (λ (it : Declared). it.at ≡ p) same (is refl)
    by false is e more = more e

-- a declaration that is found at a place is still found there when others are added behind
pub at_more : (ds more : List Declared) (p : Place) (it : Declared) → declared_at ds p ≡ Some it →
    declared_at (ds ++ more) p ≡ Some it
at_more [] more p it e = absurd cc
at_more (d ∷ ds) more p it e = by (is_place d.at p) e (at_more ds more p it)
  where
    by : (b : Bool) → (if b then Some d else declared_at ds p) ≡ Some it →
        (declared_at ds p ≡ Some it → declared_at (ds ++ more) p ≡ Some it) →
        (if b then Some d else declared_at (ds ++ more) p) ≡ Some it
    by true e next = e
    by false e next = next e

-- a declaration added at a place where there was none is found there
pub at_new : (ds : List Declared) (d : Declared) → declared_at ds d.at ≡ None → declared_at (ds ++ d ∷ []) d.at ≡ Some d
at_new [] d e = ap (λ (b : Bool). if b then Some d else None) (place_itself d.at)
at_new (other ∷ ds) d e = by (is_place other.at d.at) e (at_new ds d)
  where
    by : (b : Bool) → (if b then Some other else declared_at ds d.at) ≡ None →
        (declared_at ds d.at ≡ None → declared_at (ds ++ d ∷ []) d.at ≡ Some d) →
        (if b then Some other else declared_at (ds ++ d ∷ []) d.at) ≡ Some d
    by true e next = absurd cc
    by false e next = next e

-- a place where nothing of two lists is declared has nothing in the first
none_left : (xs ys : List Declared) (p : Place) → declared_at (xs ++ ys) p ≡ None → declared_at xs p ≡ None
none_left [] ys p e = refl
none_left (x ∷ xs) ys p e = by (is_place x.at p) e (none_left xs ys p)
  where
    by : (b : Bool) → (if b then Some x else declared_at (xs ++ ys) p) ≡ None →
        (declared_at (xs ++ ys) p ≡ None → declared_at xs p ≡ None) → (if b then Some x else declared_at xs p) ≡ None
    by true e next = absurd cc
    by false e next = next e

-- a place where nothing is declared is not that of the last declaration
none_last : (xs : List Declared) (d : Declared) (p : Place) → declared_at (xs ++ d ∷ []) p ≡ None →
    is_place d.at p ≡ false
none_last [] d p e = by (is_place d.at p) e
  where
    by : (b : Bool) → (if b then Some d else None) ≡ None → b ≡ false
    by true e = absurd cc
    by false e = refl
none_last (x ∷ xs) d p e = by (is_place x.at p) e (none_last xs d p)
  where
    by : (b : Bool) → (if b then Some x else declared_at (xs ++ d ∷ []) p) ≡ None →
        (declared_at (xs ++ d ∷ []) p ≡ None → is_place d.at p ≡ false) → is_place d.at p ≡ false
    by true e next = absurd cc
    by false e next = next e

pub differ_before : (xs ys : List Declared) → Differ (xs ++ ys) → Differ xs
differ_before [] ys h = tt
differ_before (x ∷ xs) ys h = (none_left xs ys x.at h.0, differ_before xs ys h.1)

-- two places that differ do so in either order
pub other_way : (p q : Place) → is_place p q ≡ false → is_place q p ≡ false
other_way p q e = by (is_place q p) (place_is q p)
  where
    by : (b : Bool) → (b ≡ true → q ≡ p) → b ≡ false
    by true is =
        let same : is_place p q ≡ true = subst (λ (r : Place). is_place p r ≡ true) (sym (is refl)) (place_itself p) in
        absurd cc
    by false is = refl

-- the last declaration is at a new place
pub last_is_new : (xs : List Declared) (d : Declared) → Differ (xs ++ d ∷ []) → declared_at xs d.at ≡ None
last_is_new [] d h = refl
last_is_new (x ∷ xs) d h =
    ap (λ (b : Bool). if b then Some x else declared_at xs d.at)
    (other_way d.at x.at (none_last xs d x.at h.0)) ∙ last_is_new xs d h.1

-- maps

module _ (P R : Place → Type 0) (f : (p : Place) → P p → R p) where
  meaning_map : (m : Meaning) → MeaningIs P m → MeaningIs R m
  meaning_map (means_type t) h = tt
  meaning_map (means_thing at) h = f at h

  pub names_map : (names : List (ℕ × Meaning)) → NamesAre P names → NamesAre R names
  names_map [] h = tt
  names_map (it ∷ names) h = (meaning_map it.1 h.0, names_map names h.1)

  pub scopes_map : (scopes : List Scope) → ScopesAre P scopes → ScopesAre R scopes
  scopes_map [] h = tt
  scopes_map (scope ∷ scopes) h = (names_map scope.names h.0, scopes_map scopes h.1)

  pub things_map : (things : List (ℕ × Place)) → ThingsAre P things → ThingsAre R things
  things_map [] h = tt
  things_map (it ∷ things) h = (f it.1 h.0, things_map things h.1)

  pub kept_map : (kept : Option Scope) → KeptIs P kept → KeptIs R kept
  kept_map None h = tt
  kept_map (Some scope) h = names_map scope.names h

  use_map : (it : Use) → UseIs P it → UseIs R it
  use_map (means at) h = f at h
  use_map called h = tt
  use_map missing h = tt

  pub uses_map : (uses : List NameUse) → UsesAre P uses → UsesAre R uses
  uses_map [] h = tt
  uses_map (it ∷ uses) h = (use_map it.use_of h.0, uses_map uses h.1)

  own_map : (xs : List Own) → OwnAre P xs → OwnAre R xs
  own_map [] h = tt
  own_map (it ∷ xs) h = (f it.at h.0, own_map xs h.1)

  known_map : (xs : List Known) → KnownAre P xs → KnownAre R xs
  known_map [] h = tt
  known_map (it ∷ xs) h = (f it.at h.0, known_map xs h.1)

  body_map : (body : Option Body) → SomeBodyIs P body → SomeBodyIs R body
  body_map None h = tt
  body_map (Some body) h = (own_map body.own h.0, known_map body.known h.1)

  pub aggregates_map : (xs : List Aggregate) → AggregatesAre P xs → AggregatesAre R xs
  aggregates_map [] h = tt
  aggregates_map (it ∷ xs) h = (body_map it.body h.0, aggregates_map xs h.1)

-- what is found

module _ (P : Place → Type 0) where
  thing_is : (things : List (ℕ × Place)) (name : ℕ) (at : Place) → ThingsAre P things →
      thing_named things name ≡ Some at → P at
  thing_is [] name at h e = absurd cc
  thing_is (it ∷ things) name at h e = by (nat_eq it.0 name) e (thing_is things name at h.1)
    where
      by : (b : Bool) → (if b then Some it.1 else thing_named things name) ≡ Some at →
          (thing_named things name ≡ Some at → P at) → P at
      by true e next = let same : it.1 ≡ at = cc in subst P same h.0
      by false e next = next e

  thing_of_is : (unit : ℕ) (things : List (ℕ × Place)) (name : ℕ) (at : Place) → ThingsAre P things →
      thing_of unit things name ≡ Some at → P at
  thing_of_is unit [] name at h e = absurd cc
  thing_of_is unit (it ∷ things) name at h e =
      by (nat_eq it.0 name && nat_eq it.1.0 unit) e (thing_of_is unit things name at h.1)
    where
      by : (b : Bool) → (if b then Some it.1 else thing_of unit things name) ≡ Some at →
          (thing_of unit things name ≡ Some at → P at) → P at
      by true e next = let same : it.1 ≡ at = cc in subst P same h.0
      by false e next = next e

  either_place : (p q : Option Place) (at : Place) → (p ≡ Some at → P at) → (q ≡ Some at → P at) →
      or_place p q ≡ Some at → P at
  either_place None q at f g e = g e
  either_place (Some p) q at f g e = f e

  -- of this unit, or of the prelude
  pub linked_is : (unit : ℕ) (things : List (ℕ × Place)) (name : ℕ) → ThingsAre P things → (at : Place) →
      or_place (thing_of unit things name) (thing_of 0 things name) ≡ Some at → P at
  linked_is unit things name h at e =
      either_place (thing_of unit things name) (thing_of 0 things name) at (thing_of_is unit things name at h)
      (thing_of_is 0 things name at h) e

  pub named_is : (names : List (ℕ × Meaning)) (name : ℕ) (m : Meaning) → NamesAre P names →
      meaning_in names name ≡ Some m → MeaningIs P m
  named_is [] name m h e = absurd cc
  named_is (it ∷ names) name m h e = by (nat_eq it.0 name) e (named_is names name m h.1)
    where
      by : (b : Bool) → (if b then Some it.1 else meaning_in names name) ≡ Some m →
          (meaning_in names name ≡ Some m → MeaningIs P m) → MeaningIs P m
      by true e next = let same : it.1 ≡ m = cc in subst (MeaningIs P) same h.0
      by false e next = next e

  round_is : (m : Meaning) (found : Option Place) → ((at : Place) → found ≡ Some at → P at) →
      some_thing found ≡ Some m → MeaningIs P m
  round_is m None h e = absurd cc
  round_is m (Some at) h e = let same : means_thing at ≡ m = cc in subst (MeaningIs P) same (h at refl)

  either_is : (m : Meaning) (inner outer : Option Meaning) → (inner ≡ Some m → MeaningIs P m) →
      (outer ≡ Some m → MeaningIs P m) → or_outer inner outer ≡ Some m → MeaningIs P m
  either_is m None outer p q e = q e
  either_is m (Some it) outer p q e = p e

  pub through_is : (scopes : List Scope) (round : List (ℕ × Place)) (name : ℕ) (m : Meaning) → ScopesAre P scopes →
      ThingsAre P round → meaning_through scopes round name ≡ Some m → MeaningIs P m
  through_is [] round name m h r e = round_is m (thing_named round name) (λ at is. thing_is round name at r is) e
  through_is (scope ∷ scopes) round name m h r e =
      either_is m (meaning_in scope.names name) (meaning_through scopes round name)
      (λ is. named_is scope.names name m h.0 is) (λ is. through_is scopes round name m h.1 r is) e

  pub innermost_is : (scopes : List Scope) → ScopesAre P scopes → NamesAre P (innermost scopes).names
  innermost_is [] h = tt
  innermost_is (scope ∷ scopes) h = h.0

  pub outer_are : (scopes : List Scope) → ScopesAre P scopes → ScopesAre P (outer_scopes scopes)
  outer_are [] h = tt
  outer_are (scope ∷ scopes) h = h.1

  pub inner_is : (scopes : List Scope) (name : ℕ) (m : Meaning) → ScopesAre P scopes →
      meaning_in (innermost scopes).names name ≡ Some m → MeaningIs P m
  inner_is scopes name m h e = named_is (innermost scopes).names name m (innermost_is scopes h) e

  pub uses_more : (uses : List NameUse) (it : NameUse) → UsesAre P uses → UseIs P it.use_of →
      UsesAre P (uses ++ it ∷ [])
  uses_more [] it h k = (k, tt)
  uses_more (x ∷ uses) it h k = (h.0, uses_more uses it h.1 k)

  pub use_found : (uses : List NameUse) (p q : Place) → UsesAre P uses → use_at uses p ≡ means q → P q
  use_found [] p q h e = absurd cc
  use_found (it ∷ uses) p q h e = by (is_place it.at p) e (use_found uses p q h.1)
    where
      by : (b : Bool) → (if b then it.use_of else use_at uses p) ≡ means q → (use_at uses p ≡ means q → P q) → P q
      by true e next = subst (UseIs P) e h.0
      by false e next = next e

  -- members

  pub own_more : (xs : List Own) (it : Own) → OwnAre P xs → P it.at → OwnAre P (xs ++ it ∷ [])
  own_more [] it h k = (k, tt)
  own_more (x ∷ xs) it h k = (h.0, own_more xs it h.1 k)

  pub known_joined : (xs ys : List Known) → KnownAre P xs → KnownAre P ys → KnownAre P (xs ++ ys)
  known_joined [] ys h k = k
  known_joined (x ∷ xs) ys h k = (h.0, known_joined xs ys h.1 k)

  pub lying_are : (own : ℕ) (xs : List Known) → KnownAre P xs → KnownAre P (lying_in own xs)
  lying_are own [] h = tt
  lying_are own (x ∷ xs) h = (h.0, lying_are own xs h.1)

  pub or_no_body_is : (body : Option Body) → SomeBodyIs P body → SomeBodyIs P (Some (or_no_body body))
  or_no_body_is None h = (tt, tt)
  or_no_body_is (Some body) h = h

  some_aggregate_is : (xs : List Aggregate) (n : ℕ) → AggregatesAre P xs →
      SomeBodyIs P (body_of_some (slice_get xs n))
  some_aggregate_is [] n h = tt
  some_aggregate_is (x ∷ xs) zero h = h.0
  some_aggregate_is (x ∷ xs) (suc n) h = some_aggregate_is xs n h.1

  pub body_of_is : (xs : List Aggregate) (n : ℕ) → AggregatesAre P xs → SomeBodyIs P (body_of xs n)
  body_of_is xs n h = some_aggregate_is xs n h

  pub aggregates_more : (xs : List Aggregate) (it : Aggregate) → AggregatesAre P xs → SomeBodyIs P it.body →
      AggregatesAre P (xs ++ it ∷ [])
  aggregates_more [] it h k = (k, tt)
  aggregates_more (x ∷ xs) it h k = (h.0, aggregates_more xs it h.1 k)

  pub changed_are : (change : Body → Body) → ((body : Body) → SomeBodyIs P (Some body) →
      SomeBodyIs P (Some (change body))) → (xs : List Aggregate) (n : ℕ) → AggregatesAre P xs →
      AggregatesAre P (changed_at xs n (λ it. record it { body = Some (change (or_no_body it.body)) }))
  changed_are change c [] n h = tt
  changed_are change c (x ∷ xs) zero h = (c (or_no_body x.body) (or_no_body_is x.body h.0), h.1)
  changed_are change c (x ∷ xs) (suc n) h = (h.0, changed_are change c xs n h.1)

  pub keyed_are : (key : Aggregate → Option StructKey) (xs : List Aggregate) (n : ℕ) → AggregatesAre P xs →
      AggregatesAre P (changed_at xs n (λ it. record it { key = key it }))
  keyed_are key [] n h = tt
  keyed_are key (x ∷ xs) zero h = h
  keyed_are key (x ∷ xs) (suc n) h = (h.0, keyed_are key xs n h.1)

  known_found : (xs : List Known) (name : ℕ) (it : Known) → KnownAre P xs → known_named xs name ≡ Some it → P it.at
  known_found [] name it h e = absurd cc
  known_found (x ∷ xs) name it h e = by (nat_eq x.name name) e (known_found xs name it h.1)
    where
      by : (b : Bool) → (if b then Some x else known_named xs name) ≡ Some it →
          (known_named xs name ≡ Some it → P it.at) → P it.at
      by true e next = let same : x ≡ it = cc in subst (λ (y : Known). P y.at) same h.0
      by false e next = next e

  pub member_found : (body : Option Body) (name : ℕ) (it : Known) → SomeBodyIs P body →
      member_in body name ≡ Some it → P it.at
  member_found None name it h e = absurd cc
  member_found (Some body) name it h e = known_found body.known name it h.1 e

  own_found : (xs : List Own) (i : ℕ) (it : Own) → OwnAre P xs → slice_get xs i ≡ Some it → P it.at
  own_found [] i it h e = absurd cc
  own_found (x ∷ xs) zero it h e = let same : x ≡ it = cc in subst (λ (y : Own). P y.at) same h.0
  own_found (x ∷ xs) (suc i) it h e = own_found xs i it h.1 e

  pub own_of_found : (xs : List Aggregate) (n i : ℕ) (it : Own) → AggregatesAre P xs →
      slice_get (own_of xs n) i ≡ Some it → P it.at
  own_of_found xs n i it h e = by (body_of xs n) refl (body_of_is xs n h)
    where
      by : (body : Option Body) → body_of xs n ≡ body → SomeBodyIs P body → P it.at
      by None is k = let none : slice_get (own_of xs n) i ≡ None = rw is refl in absurd cc
      by (Some body) is k = own_found body.own i it k.0 (let some : own_of xs n ≡ body.own = rw is refl in
          ap (λ (ys : List Own). slice_get ys i) (sym some) ∙ e)

  -- what a unit leaves to later ones

  pub things_joined : (xs ys : List (ℕ × Place)) → ThingsAre P xs → ThingsAre P ys →
      ThingsAre P (xs ++ ys)
  things_joined [] ys h k = k
  things_joined (x ∷ xs) ys h k = (h.0, things_joined xs ys h.1 k)

  shared_one : (s : Names) (name : ℕ) (it : Meaning) → MeaningIs P it →
      ThingsAre P (shared_name s name it)
  shared_one s name (means_type t) h = tt
  shared_one s name (means_thing at) h = by (is_shared (declared_at s.declared at))
    where
      by : (b : Bool) → ThingsAre P (if b then (name, at) ∷ [] else [])
      by true = (h, tt)
      by false = tt

  pub shared_are : (s : Names) (names : List (ℕ × Meaning)) → NamesAre P names →
      ThingsAre P (shared s names)
  shared_are s [] h = tt
  shared_are s (it ∷ names) h =
      things_joined (shared_name s it.0 it.1) (shared s names) (shared_one s it.0 it.1 h.0) (shared_are s names h.1)
