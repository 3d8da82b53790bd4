-- What rules find in what a program shows of names.
use Rattle.std.proofs.Common.{arith, ◌≡◌, ℕ, zero, suc, ◌-◌, nat_eq, Bool, true, false, ◌&&◌, List, [], ◌∷◌, length, map, slice_get, Option, Some, None, option_map, refl, sym, ◌∙◌, ap, if◌then◌else◌}
use Rattle.std.specs.List.{last_or}
use Rattle.qual_base.proofs.Lists.{map_more, map_length}
use Rattle.type_table.specs.Types.{CType}
use Rattle.tape_ops.specs.declared.specifier.TagKind.{TagKind}
use Rattle.name_lists.specs.Newest.{newest}
use Rattle.name_rules.specs.Spellings.{Place}
use Rattle.name_rules.specs.Scopes as rules
use Rattle.name_tables.specs.declared.name_scopes.meant.Meant.{Meant}
use Rattle.name_tables.specs.declared.name_scopes.tags.Tag.{Tag}
use Rattle.name_tables.specs.NameScopes.Meanings.{OneScope, tag_found, meant_through, tag_through, innermost, outer_scopes, or_else}
use Rattle.name_tables.specs.declared.name_records.declarations.Declared.{Declared}
use Rattle.name_tables.specs.declared.name_records.body.Known.{Known}
use Rattle.name_tables.specs.declared.name_records.aggregates.Aggregate.{Aggregate}
use Rattle.name_tables.specs.NameRecords.Records.{first_declared}
use Rattle.name_tables.specs.NameRecords.Bodies as bodies
use Rattle.name_tables.specs.NameRecords.Aggregates as aggregates
use Rattle.name_state.specs.UnitNames.Shown.{tagged_of, meaning_of, entry_of, scope_of, declared_of, own_of, known_of, body_of, key_of, aggregate_of}

-- an item of what a list shows is what the item of the list shows
pub map_get : {A B : Type 0} (f : A → B) (xs : List A) (n : ℕ) → slice_get (map f xs) n ≡ option_map f (slice_get xs n)
map_get f [] n = refl
map_get f (x ∷ xs) zero = refl
map_get f (x ∷ xs) (suc n) = map_get f xs n

pub map_last : {A B : Type 0} (f : A → B) (o : Option A) (xs : List A) → last_or (option_map f o) (map f xs)
    ≡ option_map f (last_or o xs)
map_last f o [] = refl
map_last f o (x ∷ xs) = map_last f (Some x) xs

-- what a changed list shows is what the list shows, changed alike at the same position
pub map_changed : {A B : Type 0} (f : A → B) (g : A → A) (h : B → B) → ((x : A) → f (g x) ≡ h (f x))
    → (xs : List A) (n : ℕ) → map f (rules.changed_at xs n g) ≡ rules.changed_at (map f xs) n h
map_changed f g h same [] n = refl
map_changed f g h same (x ∷ xs) zero = ap (λ y. y ∷ map f xs) (same x)
map_changed f g h same (x ∷ xs) (suc n) = ap (λ ys. f x ∷ ys) (map_changed f g h same xs n)

pub thing_is : (es : List (ℕ × Place)) (n : ℕ) → rules.thing_named es n ≡ newest es n
thing_is [] n = refl
thing_is (e ∷ es) n = ap (λ o. if nat_eq e.0 n then Some e.1 else o) (thing_is es n)

-- the number of a tag in a scope is the one that the rules find in what the scope shows
pub tag_is : (ts : List Tag) (kind : TagKind) (n : ℕ) → rules.tag_in (map tagged_of ts) kind n ≡ tag_found ts kind n
tag_is [] kind n = refl
tag_is (it ∷ ts) kind n = ap (λ o. if rules.is_kind it.kind kind && nat_eq it.tag n then Some it.number else o)
    (tag_is ts kind n)

module _ (t : ℕ → CType) where
  pub meaning_is : (es : List (ℕ × Meant)) (n : ℕ) → rules.meaning_in (map (entry_of t) es) n
      ≡ option_map (meaning_of t) (newest es n)
  meaning_is [] n = refl
  meaning_is (e ∷ es) n = by_test (nat_eq e.0 n) (meaning_is es n)
    where
      by_test : (b : Bool) → rules.meaning_in (map (entry_of t) es) n ≡ option_map (meaning_of t) (newest es n)
          → (if b then Some (meaning_of t e.1) else rules.meaning_in (map (entry_of t) es) n)
          ≡ option_map (meaning_of t) (if b then Some e.1 else newest es n)
      by_test true is = refl
      by_test false is = is

  pub innermost_is : (ss : List OneScope) → rules.innermost (map (scope_of t) ss) ≡ scope_of t (innermost ss)
  innermost_is [] = refl
  innermost_is (s ∷ ss) = refl

  pub outer_is : (ss : List OneScope) → rules.outer_scopes (map (scope_of t) ss) ≡ map (scope_of t) (outer_scopes ss)
  outer_is [] = refl
  outer_is (s ∷ ss) = refl

  pub through_is : (ss : List OneScope) (round : List (ℕ × Place)) (n : ℕ)
      → rules.meaning_through (map (scope_of t) ss) round n
      ≡ rules.or_outer (option_map (meaning_of t) (meant_through ss n)) (rules.some_thing (newest round n))
  through_is [] round n = ap rules.some_thing (thing_is round n)
  through_is (s ∷ ss) round n = ap (λ o. rules.or_outer o (rules.meaning_through (map (scope_of t) ss) round n))
      (meaning_is s.names n) ∙ by_case (newest s.names n) (through_is ss round n)
    where
      by_case : (o : Option Meant)
          → rules.meaning_through (map (scope_of t) ss) round n
          ≡ rules.or_outer (option_map (meaning_of t) (meant_through ss n)) (rules.some_thing (newest round n))
          → rules.or_outer (option_map (meaning_of t) o) (rules.meaning_through (map (scope_of t) ss) round n)
          ≡ rules.or_outer (option_map (meaning_of t) (or_else o (meant_through ss n)))
          (rules.some_thing (newest round n))
      by_case None is = is
      by_case (Some m) is = refl

  pub tag_through_is : (ss : List OneScope) (kind : TagKind) (n : ℕ) → rules.tag_through (map (scope_of t) ss) kind n
      ≡ tag_through ss kind n
  tag_through_is [] kind n = refl
  tag_through_is (s ∷ ss) kind n =
      ap (λ o. rules.or_number o (rules.tag_through (map (scope_of t) ss) kind n)) (tag_is s.tags kind n)
      ∙ by_case (tag_found s.tags kind n) (tag_through_is ss kind n)
    where
      by_case : (o : Option ℕ) → rules.tag_through (map (scope_of t) ss) kind n ≡ tag_through ss kind n
          → rules.or_number o (rules.tag_through (map (scope_of t) ss) kind n) ≡ or_else o (tag_through ss kind n)
      by_case None is = is
      by_case (Some m) is = refl

  pub first_is : (ds : List Declared) (at : Place) → rules.declared_at (map (declared_of t) ds) at
      ≡ option_map (declared_of t) (first_declared ds at)
  first_is [] at = refl
  first_is (d ∷ ds) at = by_test (rules.is_place d.at at) (first_is ds at)
    where
      by_test : (b : Bool) → rules.declared_at (map (declared_of t) ds) at
          ≡ option_map (declared_of t) (first_declared ds at)
          → (if b then Some (declared_of t d) else rules.declared_at (map (declared_of t) ds) at)
          ≡ option_map (declared_of t) (if b then Some d else first_declared ds at)
      by_test true is = refl
      by_test false is = is

  pub body_is : (all : List Aggregate) (n : ℕ) → rules.body_of (map (aggregate_of t) all) n
      ≡ option_map (body_of t) (aggregates.body_at all n)
  body_is all n = ap rules.body_of_some (map_get (aggregate_of t) all n) ∙ by_case (slice_get all n)
    where
      by_case : (o : Option Aggregate) → rules.body_of_some (option_map (aggregate_of t) o)
          ≡ option_map (body_of t) (aggregates.body_of_some o)
      by_case None = refl
      by_case (Some it) = refl

  pub lying_is : (own : ℕ) (ks : List Known) → map (known_of t) (bodies.lying_in own ks)
      ≡ rules.lying_in own (map (known_of t) ks)
  lying_is own [] = refl
  lying_is own (k ∷ ks) = ap (λ rest. record (known_of t k) { own = own } ∷ rest) (lying_is own ks)

  pub some_body : (o : Option bodies.OneBody) → rules.or_no_body (option_map (body_of t) o)
      ≡ body_of t (bodies.or_empty o)
  some_body None = refl
  some_body (Some b) = refl

  -- the body of one of them changes
  pub changed_is : (change : bodies.OneBody → bodies.OneBody) (after : rules.Body → rules.Body)
      → ((b : bodies.OneBody) → body_of t (change b) ≡ after (body_of t b))
      → (all : List Aggregate) (n : ℕ) → map (aggregate_of t) (rules.changed_at all n (aggregates.with_body change))
      ≡ rules.changed_at (map (aggregate_of t) all) n
      (λ it. record it { body = Some (after (rules.or_no_body it.body)) })
  changed_is change after same all n =
      map_changed (aggregate_of t) (aggregates.with_body change)
      (λ it. record it { body = Some (after (rules.or_no_body it.body)) })
      (λ it. ap
      (λ b. let a : rules.Aggregate =
      record { kind = it.kind; at = it.at; body = Some b; key = option_map key_of it.key } in a)
      (same (bodies.or_empty it.body) ∙ ap after (sym (some_body it.body)))) all n

  -- what one of them is known by is set
  pub keyed_is : (by_typedef : Bool) (name : ℕ) (all : List Aggregate) (n : ℕ)
      → map (aggregate_of t) (rules.changed_at all n (aggregates.with_key by_typedef name))
      ≡ rules.changed_at (map (aggregate_of t) all) n
      (λ it. record it { key = Some (record { kind = it.kind; by_typedef = by_typedef; name = name }) })
  keyed_is by_typedef name all n =
      map_changed (aggregate_of t) (aggregates.with_key by_typedef name)
      (λ it. record it { key = Some (record { kind = it.kind; by_typedef = by_typedef; name = name }) })
      (λ it. refl) all n

  pub member_is : (name : ℕ) (at : Place) (ty : ℕ) (b : bodies.OneBody) → body_of t (bodies.with_member name at ty b)
      ≡ rules.with_member name at (t ty) (body_of t b)
  member_is name at ty b =
      rw (map_more (own_of t) b.own (record { at = at; ty = ty } ∷ []))
      (rw (map_more (known_of t) b.known (record { name = name; at = at; ty = ty; own = length b.own } ∷ []))
      (rw (map_length (own_of t) b.own) refl))

  pub unnamed_is : (at : Place) (ty : ℕ) (inner : List Known) (b : bodies.OneBody)
      → body_of t (bodies.with_unnamed at ty inner b)
      ≡ rules.with_unnamed at (t ty) (map (known_of t) inner) (body_of t b)
  unnamed_is at ty inner b =
      rw (map_more (own_of t) b.own (record { at = at; ty = ty } ∷ []))
      (rw (map_more (known_of t) b.known (bodies.lying_in (length b.own) inner))
      (rw (lying_is (length b.own) inner) (rw (map_length (own_of t) b.own) refl)))

  -- the members that lie in a struct
  pub inner_is : (all : List Aggregate) (n : ℕ) → map (known_of t) (aggregates.known_at all n)
      ≡ (rules.or_no_body (rules.body_of (map (aggregate_of t) all) n)).known
  inner_is all n = ap (λ (b : rules.Body). b.known)
      (sym (some_body (aggregates.body_at all n)) ∙ ap rules.or_no_body (sym (body_is all n)))

last_from : {A : Type 0} (x : A) (xs : List A) → slice_get (x ∷ xs) (length xs) ≡ last_or (Some x) xs
last_from x [] = refl
last_from x (y ∷ ys) = last_from y ys

pub last_get : {A : Type 0} (xs : List A) → slice_get xs (length xs - 1) ≡ last_or None xs
last_get [] = refl
last_get (x ∷ xs) = let e : length (x ∷ xs) - 1 ≡ length xs = omega arith in rw e (last_from x xs)

pub ruleset views = (
  map_more,
  map_length,
  map_last,
  thing_is,
  tag_is,
  meaning_is,
  innermost_is,
  outer_is,
  through_is,
  tag_through_is,
  first_is,
  body_is,
  lying_is,
)
