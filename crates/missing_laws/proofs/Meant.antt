-- Names that mean what has a skeleton, through each change of what is known of names.
use Rattle.std.proofs.Common.{◌≡◌, ◌⊎◌, inl, inr, ℕ, zero, suc, Bool, true, false, List, [], ◌∷◌, ◌++◌, slice_get, length, Option, None, Some, refl, sym, ap, subst, ◌∙◌, append_assoc}
use Rattle.std.specs.Prelude.{◌&&◌, ◌||◌, nat_eq, if◌then◌else◌}
use Rattle.c_words.specs.declared.kinds.Keyword.{Keyword}
use Rattle.c_words.specs.declared.kinds.Keyword.TheVariants as keywords
use Rattle.tape_ops.specs.declared.specifier.TagKind.{TagKind}
use Rattle.type_table.specs.Types.{CType, pointer}
use Rattle.name_rules.specs.Spellings.{Spelling, Place, place, Named}
use Rattle.name_rules.specs.Faults.{Fault}
use Rattle.name_rules.specs.Scopes.{with_faults, Aggregate, Body, Declared, Known, Meaning, means_type, means_thing, Names, Own, Role, Scope, Tagged, typedef_role, object_role, function_role, parameter_role, field_role, enumerator_role, body_of, bound, changed_at, declared_at, enter, inner_meaning, innermost, is_at_file, is_place, leave, lying_in, meaning_in, meaning_through, or_no_body, or_outer, or_place, outer_scopes, some_thing, thing_named, thing_of, with_key, with_member, has_body, sized}
use Rattle.name_rules.specs.Pieces.{is_function}
use Rattle.name_rules.specs.Declaring.{Numbered, begun_body, begun_in, body_entered, body_left, declared_here, declared_member, declared_param, declared_some, declared_thing, declared_typedef, declaring, found_or_new, has_word, keep, linked, opened, or_at, owner_where, scope_kept, static_where, struct_number, tag_known, the_thing, thing_where, type_named, typedef_known, unnamed_member, untagged, used}
use Rattle.name_rules.specs.Units.{is_shared, no_names, shared, shared_name, unit_begun}
use Rattle.name_rules.specs.Values.{known_named, member_in, own_of}
use Rattle.name_rules.specs.MeaningLaws.Meanings.{Differ, KeptIs, MeaningIs, NamesAre, ThingsAre}
use Rattle.name_rules.proofs.MeaningLaws.Lists.{place_is, place_itself}
use Rattle.row_rules.specs.Starting.{declared_start, name_start, some_declared_start}
use Rattle.row_rules.specs.Worlds.{World, at}
use Rattle.first_laws.specs.Firsts.{FirstsHaveSkeletons, HasSkeletonAt, has_skeleton}
use Rattle.missing_laws.specs.Everywhere.{NamedHas}
use Rattle.missing_laws.specs.Finding.{AreFound, Begins, FirstIs, FirstIsMet, MembersBegin, NameBegins, PlaceBegins, RoleHasSkeleton, TokenBegins}
use Rattle.missing_laws.proofs.Growth.{Behind, Grows, joins, known_grows}
use Rattle.missing_laws.proofs.Rows.{around, declared_there}

abbrev own_list : Option Body → List Own
own_list None = []
own_list (Some body) = body.own

-- what is declared is found at its place

placed_where : (b : Bool) (x d : Declared) (o : Option Declared) → (b ≡ true → ⊥) → o ≡ Some d →
    (if b then Some x else o) ≡ Some d
placed_where true x d o g h = absurd (g refl)
placed_where false x d o g h = h

clash : (ds : List Declared) (p q : Place) (d : Declared) → p ≡ q → declared_at ds p ≡ None →
    declared_at ds q ≡ Some d → ⊥
clash ds p q d e none there =
    let here : declared_at ds q ≡ None = subst (λ (r : Place). declared_at ds r ≡ None) e none in absurd cc

-- among declarations at different places, each is the one found at its place
placed : (xs ys : List Declared) (d : Declared) → Differ (xs ++ d ∷ ys) → declared_at (xs ++ d ∷ ys) d.at ≡ Some d
placed [] ys d h = ap (λ (b : Bool). if b then Some d else declared_at ys d.at) (place_itself d.at)
placed (x ∷ xs) ys d h = placed_where (is_place x.at d.at) x d _
    (λ e. clash (xs ++ d ∷ ys) x.at d.at d (place_is x.at d.at e) h.0 (placed xs ys d h.1)) (placed xs ys d h.1)

-- no two declarations are at one place, and what has a skeleton was first declared as what has one
pub record AreWell (ds : List Declared) : Type 0 where
  pub differ : Differ ds
  pub firsts : FirstsHaveSkeletons ds

module _ (w : World) (well : AreWell w.names.declared) where
  abbrev S : Names
  S = w.names

  -- a declaration that was put behind others is found, whatever is put behind it
  pub found_there : (old new : List Declared) (d : Declared) → new ≡ old ++ d ∷ [] → Behind new S.declared →
      declared_at S.declared d.at ≡ Some d
  found_there old new d e h =
      let all : S.declared ≡ old ++ d ∷ h.0 =
      h.1 ∙ (ap (λ (ds : List Declared). ds ++ h.0) e ∙ append_assoc old (d ∷ []) h.0) in
      subst (λ (ds : List Declared). declared_at ds d.at ≡ Some d) (sym all)
      (placed old h.0 d (subst Differ all well.differ))

  -- a name means what has a skeleton, or an enumerator
  abbrev pub Meant : Place → Type 0
  Meant p = (d : Declared) × (declared_at S.declared p ≡ Some d) × NameBegins w d d.role

  -- what has a skeleton is declared at the place, and it begins there
  abbrev pub Stands : Place → Type 0
  Stands p = (d : Declared) × (declared_at S.declared p ≡ Some d)
      × ((has_skeleton d.role ≡ true) × Begins w d.at (pointer [] d.type))

  here_begins : (p : Place) (d : Declared) → declared_at S.declared p ≡ Some d → Begins w d.at (pointer [] d.type) →
      PlaceBegins w p
  here_begins p d e h = (
    pointer [] d.type,
    subst (λ (q : Place). Begins w q (pointer [] d.type))
        (declared_there S.declared p d e) h,
  )

  pub stood : (p : Place) → Stands p → PlaceBegins w p
  stood p h = here_begins p h.0 h.1 h.2.1

  role_begins : (d : Declared) (role : Role) → has_skeleton role ≡ true → NameBegins w d role →
      Begins w d.at (pointer [] d.type)
  role_begins d enumerator_role is h = absurd cc
  role_begins d typedef_role is h = absurd cc
  role_begins d object_role is h = h
  role_begins d function_role is h = h
  role_begins d (parameter_role i) is h = h
  role_begins d (field_role n i) is h = h

  named_as : (d : Declared) (role : Role) → Begins w d.at (pointer [] d.type) → NameBegins w d role
  named_as d typedef_role h = h
  named_as d enumerator_role h = tt
  named_as d object_role h = h
  named_as d function_role h = h
  named_as d (parameter_role i) h = h
  named_as d (field_role n i) h = h

  one_declared : (p : Place) (c d : Declared) → declared_at S.declared p ≡ Some c → declared_at S.declared p ≡ Some d
      → c ≡ d
  one_declared p c d e k = by (sym e ∙ k)
    where
      by : Some c ≡ Some d → c ≡ d
      by is = cc

  -- what a name means is declared as what has a skeleton
  pub met : (p : Place) → Meant p → HasSkeletonAt S.declared p → PlaceBegins w p
  met p h k =
      let same = one_declared p k.0 h.0 k.1 h.1 in
      here_begins p h.0 h.1 (role_begins h.0 h.0.role
      (subst (λ (d : Declared). has_skeleton d.role ≡ true) same k.2) h.2)

  pub meant : (p : Place) → Stands p → Meant p
  meant p h = (h.0, h.1, named_as h.0 h.0.role h.2.1)

  -- scopes of which some are not looked at; those past the list are
  abbrev pub ScopesAre : List Bool → List Scope → Type 0
  ScopesAre bs [] = Unit {0}
  ScopesAre [] (scope ∷ scopes) = NamesAre Meant scope.names × ScopesAre [] scopes
  ScopesAre (b ∷ bs) (scope ∷ scopes) = (b ≡ true → NamesAre Meant scope.names) × ScopesAre bs scopes

  abbrev pub OwnGood : List Own → Type 0
  OwnGood [] = Unit {0}
  OwnGood (it ∷ others) = Begins w it.at (pointer [] it.type) × OwnGood others

  abbrev pub KnownGood : List Known → Type 0
  KnownGood [] = Unit {0}
  KnownGood (it ∷ others) = Begins w it.at (pointer [] it.type) × KnownGood others

  abbrev pub BodyGood : Option Body → Type 0
  BodyGood None = Unit {0}
  BodyGood (Some body) = OwnGood body.own × KnownGood body.known

  abbrev pub AllGood : List Aggregate → Type 0
  AllGood [] = Unit {0}
  AllGood (it ∷ others) = BodyGood it.body × AllGood others

  pub record Good (bs : List Bool) (s : Names) : Type 0 where
    pub scopes : ScopesAre bs s.scopes
    pub things : ThingsAre Stands s.things
    pub round : ThingsAre Meant s.round
    pub kept : KeptIs Meant s.kept
    pub members : AllGood s.aggregates

  abbrev pub AllTrue : List Bool → Type 0
  AllTrue [] = Unit {0}
  AllTrue (b ∷ bs) = (b ≡ true) × AllTrue bs

  -- look-ups

  abbrev pub SomeMeaning : Option Meaning → Type 0
  SomeMeaning None = Unit {0}
  SomeMeaning (Some it) = MeaningIs Meant it

  abbrev pub SomeThing : Option Place → Type 0
  SomeThing None = Unit {0}
  SomeThing (Some p) = Meant p

  abbrev pub SomeStands : Option Place → Type 0
  SomeStands None = Unit {0}
  SomeStands (Some p) = Stands p

  picked : {A : Type 0} (P : A → Type 0) (b : Bool) (x y : A) → P x → P y → P (if b then x else y)
  picked P true x y h k = h
  picked P false x y h k = k

  in_names : (names : List (ℕ × Meaning)) (name : ℕ) → NamesAre Meant names → SomeMeaning (meaning_in names name)
  in_names [] name h = tt
  in_names (it ∷ names) name h = picked SomeMeaning (nat_eq it.0 name) (Some it.1) (meaning_in names name) h.0
      (in_names names name h.1)

  pub in_things : (things : List (ℕ × Place)) (name : ℕ) → ThingsAre Meant things → SomeThing (thing_named things name)
  in_things [] name h = tt
  in_things (it ∷ things) name h = picked SomeThing (nat_eq it.0 name) (Some it.1) (thing_named things name) h.0
      (in_things things name h.1)

  in_things_of : (unit : ℕ) (things : List (ℕ × Place)) (name : ℕ) → ThingsAre Stands things →
      SomeStands (thing_of unit things name)
  in_things_of unit [] name h = tt
  in_things_of unit (it ∷ things) name h =
      picked SomeStands (nat_eq it.0 name && nat_eq it.1.0 unit) (Some it.1) (thing_of unit things name) h.0
      (in_things_of unit things name h.1)

  or_thing : (o p : Option Place) → SomeStands o → SomeStands p → SomeStands (or_place o p)
  or_thing None p h k = k
  or_thing (Some at) p h k = h

  or_meaning : (o p : Option Meaning) → SomeMeaning o → SomeMeaning p → SomeMeaning (or_outer o p)
  or_meaning None p h k = k
  or_meaning (Some it) p h k = h

  round_meaning : (o : Option Place) → SomeThing o → SomeMeaning (some_thing o)
  round_meaning None h = tt
  round_meaning (Some p) h = h

  pub through : (bs : List Bool) (scopes : List Scope) (round : List (ℕ × Place)) (name : ℕ) → AllTrue bs →
      ScopesAre bs scopes → ThingsAre Meant round → SomeMeaning (meaning_through scopes round name)
  through bs [] round name all h k = round_meaning (thing_named round name) (in_things round name k)
  through [] (scope ∷ scopes) round name all h k = or_meaning (meaning_in scope.names name) _
      (in_names scope.names name h.0) (through [] scopes round name tt h.1 k)
  through (b ∷ bs) (scope ∷ scopes) round name all h k = or_meaning (meaning_in scope.names name) _
      (in_names scope.names name (h.0 all.0)) (through bs scopes round name all.1 h.1 k)

  inner : (b : Bool) (bs : List Bool) (scopes : List Scope) (name : ℕ) → b ≡ true → ScopesAre (b ∷ bs) scopes →
      SomeMeaning (meaning_in (innermost scopes).names name)
  inner b bs [] name e h = tt
  inner b bs (scope ∷ scopes) name e h = in_names scope.names name (h.0 e)

  -- changes of scopes

  innermost_are : (b : Bool) (bs : List Bool) (scopes : List Scope) → b ≡ true → ScopesAre (b ∷ bs) scopes →
      NamesAre Meant (innermost scopes).names
  innermost_are b bs [] e h = tt
  innermost_are b bs (scope ∷ scopes) e h = h.0 e

  outer_are : (b : Bool) (bs : List Bool) (scopes : List Scope) → ScopesAre (b ∷ bs) scopes →
      ScopesAre bs (outer_scopes scopes)
  outer_are b bs [] h = tt
  outer_are b bs (scope ∷ scopes) h = h.1

  pub good_enter : (c : Bool) (bs : List Bool) (s : Names) → Good bs s → Good (c ∷ bs) (enter s)
  good_enter c bs s h = record {
    scopes = (λ e. tt, h.scopes);
    things = h.things;
    round = h.round;
    kept = h.kept;
    members = h.members;
  }

  pub good_leave : (c : Bool) (bs : List Bool) (s : Names) → Good (c ∷ bs) s → Good bs (leave s)
  good_leave c bs s h = record {
    scopes = outer_are c bs s.scopes h.scopes;
    things = h.things;
    round = h.round;
    kept = h.kept;
    members = h.members;
  }

  pub good_bound : (b : Bool) (bs : List Bool) (name : ℕ) (it : Meaning) (s : Names) → (b ≡ true → MeaningIs Meant it) →
      Good (b ∷ bs) s → Good (b ∷ bs) (bound name it s)
  good_bound b bs name it s k h = record {
    scopes = (λ e. (k e, innermost_are b bs s.scopes e h.scopes), outer_are b bs s.scopes h.scopes);
    things = h.things;
    round = h.round;
    kept = h.kept;
    members = h.members;
  }

  tagged_are : (b : Bool) (bs : List Bool) (scopes : List Scope) (tags : List Tagged) → ScopesAre (b ∷ bs) scopes →
      ScopesAre (b ∷ bs) (record (innermost scopes) { tags = tags } ∷ outer_scopes scopes)
  tagged_are b bs [] tags h = (λ e. tt, tt)
  tagged_are b bs (scope ∷ scopes) tags h = h

  -- changes of aggregates

  all_more : (xs : List Aggregate) (it : Aggregate) → AllGood xs → BodyGood it.body → AllGood (xs ++ it ∷ [])
  all_more [] it h k = (k, tt)
  all_more (x ∷ xs) it h k = (h.0, all_more xs it h.1 k)

  or_good : (o : Option Body) → BodyGood o → OwnGood (or_no_body o).own × KnownGood (or_no_body o).known
  or_good None h = (tt, tt)
  or_good (Some body) h = h

  changed_good : (xs : List Aggregate) (n : ℕ) (change : Body → Body) → AllGood xs →
      ((body : Body) → OwnGood body.own × KnownGood body.known →
      OwnGood (change body).own × KnownGood (change body).known) →
      AllGood (changed_at xs n (λ it. record it { body = Some (change (or_no_body it.body)) }))
  changed_good [] n change h g = tt
  changed_good (x ∷ xs) zero change h g = (g (or_no_body x.body) (or_good x.body h.0), h.1)
  changed_good (x ∷ xs) (suc n) change h g = (h.0, changed_good xs n change h.1 g)

  -- what a struct is known by says nothing of its members
  keyed_good : (xs : List Aggregate) (n : ℕ) (change : Aggregate → Aggregate) →
      ((it : Aggregate) → BodyGood it.body → BodyGood (change it).body) → AllGood xs → AllGood (changed_at xs n change)
  keyed_good [] n change g h = tt
  keyed_good (x ∷ xs) zero change g h = (g x h.0, h.1)
  keyed_good (x ∷ xs) (suc n) change g h = (h.0, keyed_good xs n change g h.1)

  good_key : (bs : List Bool) (n : ℕ) (by_typedef : Bool) (name : ℕ) (s : Names) → Good bs s →
      Good bs (with_key n by_typedef name s)
  good_key bs n by_typedef name s h = record {
    scopes = h.scopes;
    things = h.things;
    round = h.round;
    kept = h.kept;
    members = keyed_good s.aggregates n _ (λ it good. good) h.members;
  }

  good_key_where : (b : Bool) (bs : List Bool) (n : ℕ) (by_typedef : Bool) (name : ℕ) (s : Names) → Good bs s →
      Good bs (if b then with_key n by_typedef name s else s)
  good_key_where true bs n by_typedef name s h = good_key bs n by_typedef name s h
  good_key_where false bs n by_typedef name s h = h

  good_tag : (bs : List Bool) (tag : Option ℕ) (n : ℕ) (s : Names) → Good bs s → Good bs (tag_known tag n s)
  good_tag bs None n s h = h
  good_tag bs (Some tag) n s h = good_key_where (is_at_file s) bs n false tag s h

  good_known : (bs : List Bool) (words : List Keyword) (name : ℕ) (untagged : Option ℕ) (s : Names) → Good bs s →
      Good bs (typedef_known words name untagged s)
  good_known bs words name None s h = h
  good_known bs words name (Some n) s h =
      good_key_where (has_word keywords.Typedef words && is_at_file s) bs n true name s h

  own_more : (xs : List Own) (it : Own) → OwnGood xs → Begins w it.at (pointer [] it.type) → OwnGood (xs ++ it ∷ [])
  own_more [] it h k = (k, tt)
  own_more (x ∷ xs) it h k = (h.0, own_more xs it h.1 k)

  known_more : (xs ys : List Known) → KnownGood xs → KnownGood ys → KnownGood (xs ++ ys)
  known_more [] ys h k = k
  known_more (x ∷ xs) ys h k = (h.0, known_more xs ys h.1 k)

  lying_good : (n : ℕ) (xs : List Known) → KnownGood xs → KnownGood (lying_in n xs)
  lying_good n [] h = tt
  lying_good n (x ∷ xs) h = (h.0, lying_good n xs h.1)

  body_good : (xs : List Aggregate) (n : ℕ) → AllGood xs → BodyGood (body_of xs n)
  body_good [] n h = tt
  body_good (x ∷ xs) zero h = h.0
  body_good (x ∷ xs) (suc n) h = body_good xs n h.1

  pub good_found : (b : Bool) (bs : List Bool) (found : Option ℕ) (u : Spelling) (kind : TagKind) (token tag : ℕ)
      (s : Names) → Good (b ∷ bs) s → Good (b ∷ bs) (found_or_new found u kind token tag s).names
  good_found b bs (Some n) u kind token tag s h = h
  good_found b bs None u kind token tag s h = record {
    scopes = tagged_are b bs s.scopes
        (record { kind = kind; tag = u.key tag; number = length s.aggregates } ∷ (innermost s.scopes).tags) h.scopes;
    things = h.things;
    round = h.round;
    kept = h.kept;
    members = all_more s.aggregates _ h.members tt;
  }

  pub good_untagged : (bs : List Bool) (at : Place) (kind : TagKind) (s : Names) → Good bs s →
      Good bs (untagged at kind s).names
  good_untagged bs at kind s h = record {
    scopes = h.scopes;
    things = h.things;
    round = h.round;
    kept = h.kept;
    members = all_more s.aggregates _ h.members tt;
  }

  good_opened : (bs : List Bool) (n : ℕ) (s : Names) → Good bs s → Good bs (opened n s)
  good_opened bs n s h = record {
    scopes = h.scopes;
    things = h.things;
    round = h.round;
    kept = h.kept;
    members = changed_good s.aggregates n (λ body. body) h.members (λ body good. good);
  }

  pub good_begun : (bs : List Bool) (b : Bool) (at : Place) (kind : TagKind) (tag : Option ℕ) (it : Numbered) →
      Good bs it.names → Good bs (begun_in b at kind tag it).names
  good_begun bs true at kind tag it h = record {
    scopes = h.scopes;
    things = h.things;
    round = h.round;
    kept = h.kept;
    members = changed_good _ (length it.names.aggregates) (λ body. body) (all_more it.names.aggregates _ h.members tt)
        (λ body good. good);
  }
  good_begun bs false at kind tag it h =
      good_tag bs tag it.number (opened it.number it.names) (good_opened bs it.number it.names h)

  pub good_body : (bs : List Bool) (at : Place) (kind : TagKind) (tag : Option ℕ) (it : Numbered) → Good bs it.names →
      Good bs (begun_body at kind tag it).names
  good_body bs at kind tag it h = good_begun bs (has_body (body_of it.names.aggregates it.number)) at kind tag it h

  -- other changes

  pub good_used : (bs : List Bool) (u : Spelling) (c : Bool) (token name : ℕ) (s : Names) → Good bs s →
      Good bs (used u c token name s)
  good_used bs u c token name s h = record {
    scopes = h.scopes;
    things = h.things;
    round = h.round;
    kept = h.kept;
    members = h.members;
  }

  pub good_type : (bs : List Bool) (at : Place) (t : CType) (s : Names) → Good bs s → Good bs (type_named at t s)
  good_type bs at t s h = record {
    scopes = h.scopes;
    things = h.things;
    round = h.round;
    kept = h.kept;
    members = h.members;
  }

  pub good_sized : (bs : List Bool) (at : Place) (t : CType) (s : Names) → Good bs s → Good bs (sized at t s)
  good_sized bs at t s h = record {
    scopes = h.scopes;
    things = h.things;
    round = h.round;
    kept = h.kept;
    members = h.members;
  }

  pub thing_meant : (o : Option Meaning) (at : Place) → SomeMeaning o → Meant at → Meant (the_thing o at)
  thing_meant (Some (means_thing first)) at h k = h
  thing_meant (Some (means_type t)) at h k = k
  thing_meant None at h k = k

  pub here_meant : (b : Bool) (bs : List Bool) (at : Place) (name : ℕ) (s : Names) → Good (b ∷ bs) s → b ≡ true →
      Meant at → Meant (the_thing (inner_meaning s name) at)
  here_meant b bs at name s h e k = thing_meant (inner_meaning s name) at (inner b bs s.scopes name e h.scopes) k

  pub good_here : (b : Bool) (bs : List Bool) (at : Place) (name : ℕ) (role : Role) (t : CType) (own : Option Place)
      (s : Names) → (b ≡ true → Meant at) → Good (b ∷ bs) s → Good (b ∷ bs) (declared_here at name role t own s)
  good_here b bs at name role t own s k h =
      good_bound b bs name (means_thing (the_thing (inner_meaning s name) at))
      (declaring at role (the_thing (inner_meaning s name) at) t own s)
      (λ e. here_meant b bs at name s h e (k e)) (record {
        scopes = h.scopes;
        things = h.things;
        round = h.round;
        kept = h.kept;
        members = h.members;
      })

  linked_at : (o : Option Place) (at : Place) → SomeStands o → Stands at → Stands (or_at o at)
  linked_at None at h k = k
  linked_at (Some first) at h k = h

  pub linked_stands : (bs : List Bool) (at : Place) (name : ℕ) (s : Names) → Good bs s → Stands at →
      Stands (linked name at s)
  linked_stands bs at name s h k =
      linked_at (or_place (thing_of at.0 s.things name) (thing_of 0 s.things name)) at
      (or_thing (thing_of at.0 s.things name) (thing_of 0 s.things name) (in_things_of at.0 s.things name h.things)
      (in_things_of 0 s.things name h.things)) k

  good_new : (bs : List Bool) (is_new : Bool) (name : ℕ) (at : Place) (s : Names) → Stands at → Good bs s →
      Good bs (thing_where is_new name at s)
  good_new bs false name at s k h = h
  good_new bs true name at s k h = record {
    scopes = h.scopes;
    things = (k, h.things);
    round = h.round;
    kept = h.kept;
    members = h.members;
  }

  good_static : (bs : List Bool) (is_static : Bool) (unit name : ℕ) (s : Names) → Good bs s →
      Good bs (static_where is_static unit name s)
  good_static bs false unit name s h = h
  good_static bs true unit name s h = record {
    scopes = h.scopes;
    things = h.things;
    round = h.round;
    kept = h.kept;
    members = h.members;
  }

  -- before an object or function of the file is declared
  abbrev pub with_thing : List Keyword → Place → ℕ → Names → Names
  with_thing words at name s =
      static_where (has_word keywords.Static words) at.0 name (thing_where (is_place (linked name at s) at) name at s)

  good_with_thing : (bs : List Bool) (words : List Keyword) (at : Place) (name : ℕ) (s : Names) → Stands at →
      Good bs s → Good bs (with_thing words at name s)
  good_with_thing bs words at name s k h =
      good_static bs (has_word keywords.Static words) at.0 name _
      (good_new bs (is_place (linked name at s) at) name at s k h)

  pub good_thing : (b : Bool) (bs : List Bool) (words : List Keyword) (at : Place) (name : ℕ) (t : CType) (s : Names) →
      Stands at → Good (b ∷ bs) s → Good (b ∷ bs) (declared_thing words at name t s)
  good_thing b bs words at name t s k h =
      let old = good_with_thing (b ∷ bs) words at name s k h in
      good_bound b bs name (means_thing (linked name at s)) _
      (λ e. meant (linked name at s) (linked_stands (b ∷ bs) at name s h k)) (record {
        scopes = old.scopes;
        things = old.things;
        round = old.round;
        kept = old.kept;
        members = old.members;
      })

  pub good_typedef : (b : Bool) (bs : List Bool) (at : Place) (name : ℕ) (t : CType) (s : Names) →
      Good (b ∷ bs) s → Good (b ∷ bs) (declared_typedef at name t s)
  good_typedef b bs at name t s h = good_bound b bs name (means_type t) _ (λ e. tt) (record {
    scopes = h.scopes;
    things = h.things;
    round = h.round;
    kept = h.kept;
    members = h.members;
  })

  pub good_member : (bs : List Bool) (u : Spelling) (it : Named) (n : ℕ) (t : CType) (s : Names) →
      Begins w (place u it.token) (pointer [] t) → Good bs s → Good bs (declared_member u (Some it) n t s)
  good_member bs u it n t s k h = record {
    scopes = h.scopes;
    things = h.things;
    round = h.round;
    kept = h.kept;
    members = changed_good s.aggregates n (with_member (u.key it.name) (place u it.token) t) h.members
        (λ body good. (own_more body.own _ good.0 k, known_more body.known _ good.1 (k, tt)));
  }

  pub good_unnamed : (bs : List Bool) (at : Place) (n : ℕ) (t : CType) (s : Names) → Begins w at (pointer [] t) →
      Good bs s → Good bs (unnamed_member at n t s)
  good_unnamed bs at n t s k h = record {
    scopes = h.scopes;
    things = h.things;
    round = h.round;
    kept = h.kept;
    members = changed_good s.aggregates n _ h.members (λ body good. (
      own_more body.own _ good.0 k,
      known_more body.known _ good.1 (lying_good (length body.own) _
          (or_good (body_of s.aggregates (struct_number t)) (body_good s.aggregates (struct_number t) h.members)).1),
    ));
  }

  pub good_keep : (c : Bool) (bs : List Bool) (own : Option Place) (s : Names) → (own ≡ None) ⊎ (c ≡ true) →
      Good (c ∷ bs) s → Good bs (keep own s)
  good_keep c bs None s k h = good_leave c bs s h
  good_keep c bs (Some f) s (inl e) h = absurd cc
  good_keep c bs (Some f) s (inr e) h = record {
    scopes = outer_are c bs s.scopes h.scopes;
    things = h.things;
    round = h.round;
    kept = innermost_are c bs s.scopes e h.scopes;
    members = h.members;
  }

  one_is : (scopes : List Scope) → ScopesAre (true ∷ []) scopes → ScopesAre (true ∷ true ∷ []) scopes
  one_is [] h = tt
  one_is (scope ∷ []) h = (h.0, tt)
  one_is (scope ∷ (other ∷ scopes)) h = (h.0, (λ e. h.1.0, h.1.1))

  kept_are : (o : Option Scope) (scopes : List Scope) → KeptIs Meant o → ScopesAre (true ∷ []) scopes →
      ScopesAre (true ∷ true ∷ []) (scope_kept o scopes)
  kept_are None scopes k h = one_is scopes h
  kept_are (Some scope) scopes k h = (λ e. k, h)

  pub good_entered : (at first : Place) (is_plain is_counted : Bool) (s : Names) → Good (true ∷ []) s →
      Good (true ∷ true ∷ []) (body_entered at first is_plain is_counted s)
  good_entered at first is_plain true s h = record {
    scopes = kept_are s.kept s.scopes h.kept h.scopes;
    things = h.things;
    round = h.round;
    kept = tt;
    members = h.members;
  }
  good_entered at first is_plain false s h = record {
    scopes = kept_are s.kept s.scopes h.kept h.scopes;
    things = h.things;
    round = h.round;
    kept = tt;
    members = h.members;
  }

  pub good_faults : (bs : List Bool) (faults : List Fault) (s : Names) → Good bs s → Good bs (with_faults faults s)
  good_faults bs faults s h = record {
    scopes = h.scopes;
    things = h.things;
    round = h.round;
    kept = h.kept;
    members = h.members;
  }

  pub good_left : (b : Bool) (bs : List Bool) (s : Names) → Good (b ∷ bs) s → Good bs (body_left s)
  good_left b bs s h = record {
    scopes = outer_are b bs s.scopes h.scopes;
    things = h.things;
    round = h.round;
    kept = h.kept;
    members = h.members;
  }

  -- members at last

  known_at : (xs : List Known) (name : ℕ) (it : Known) → KnownGood xs → known_named xs name ≡ Some it →
      Begins w it.at (pointer [] it.type)
  known_at [] name it h e = absurd cc
  known_at (x ∷ xs) name it h e = by (nat_eq x.name name) e (known_at xs name it h.1)
    where
      by : (b : Bool) → (if b then Some x else known_named xs name) ≡ Some it →
          (known_named xs name ≡ Some it → Begins w it.at (pointer [] it.type)) → Begins w it.at (pointer [] it.type)
      by true e next = let same : x ≡ it = cc in subst (λ (y : Known). Begins w y.at (pointer [] y.type)) same h.0
      by false e next = next e

  own_at : (xs : List Own) (i : ℕ) (it : Own) → OwnGood xs → slice_get xs i ≡ Some it
      → Begins w it.at (pointer [] it.type)
  own_at [] i it h e = absurd cc
  own_at (x ∷ xs) zero it h e =
      let same : x ≡ it = cc in
      subst (λ (y : Own). Begins w y.at (pointer [] y.type)) same h.0
  own_at (x ∷ xs) (suc i) it h e = own_at xs i it h.1 e

  pub body_known : (o : Option Body) (name : ℕ) (it : Known) → BodyGood o → member_in o name ≡ Some it →
      Begins w it.at (pointer [] it.type)
  body_known None name it h e = absurd cc
  body_known (Some body) name it h e = known_at body.known name it h.1 e

  pub members_begin : AllGood S.aggregates → MembersBegin w
  members_begin h = record {
    known = λ n name it e. body_known (body_of S.aggregates n) name it (body_good S.aggregates n h) e;
    own = λ n i it e. own_is n i it (body_of S.aggregates n) refl e;
  }
    where
      own_is : (n i : ℕ) (it : Own) (o : Option Body) → body_of S.aggregates n ≡ o →
          slice_get (own_of S.aggregates n) i ≡ Some it → Begins w it.at (pointer [] it.type)
      own_is n i it None is e = let none : own_of S.aggregates n ≡ [] = ap own_list is in
          own_at [] i it tt (subst (λ (xs : List Own). slice_get xs i ≡ Some it) none e)
      own_is n i it (Some body) is e = let some : own_of S.aggregates n ≡ body.own = ap own_list is in
          own_at body.own i it
          (subst (λ (o : Option Body). BodyGood o) is (body_good S.aggregates n h)).0
          (subst (λ (xs : List Own). slice_get xs i ≡ Some it) some e)

  no_scopes : (xs ys : List (ℕ × Place)) → ThingsAre Meant xs → ThingsAre Meant ys → ThingsAre Meant (xs ++ ys)
  no_scopes [] ys h k = k
  no_scopes (x ∷ xs) ys h k = (h.0, no_scopes xs ys h.1 k)

  name_shared : (s : Names) (name : ℕ) (it : Meaning) → MeaningIs Meant it → ThingsAre Meant (shared_name s name it)
  name_shared s name (means_type t) h = tt
  name_shared s name (means_thing at) h = by (is_shared (declared_at s.declared at))
    where
      by : (b : Bool) → ThingsAre Meant (if b then (name, at) ∷ [] else [])
      by true = (h, tt)
      by false = tt

  all_shared : (s : Names) (names : List (ℕ × Meaning)) → NamesAre Meant names → ThingsAre Meant (shared s names)
  all_shared s [] h = tt
  all_shared s (it ∷ names) h = no_scopes (shared_name s it.0 it.1) _ (name_shared s it.0 it.1 h.0)
      (all_shared s names h.1)

  pub good_unit : (unit : ℕ) (s : Names) → Good (true ∷ []) s → Good (true ∷ []) (unit_begun unit s)
  good_unit unit s h = record {
    scopes = (λ e. tt, tt);
    things = h.things;
    kept = h.kept;
    members = h.members;
    round = picked (ThingsAre Meant) (nat_eq unit 1) (shared s (innermost s.scopes).names) s.round
        (all_shared s (innermost s.scopes).names (innermost_are true [] s.scopes refl h.scopes)) h.round;
  }

  pub good_none : Good (true ∷ []) no_names
  good_none = record { scopes = (λ e. tt, tt); things = tt; round = tt; kept = tt; members = tt }

  -- a name that is declared, at its token

  begins_as : (f : Option Place) (d : Declared) (role : Role) → has_skeleton role ≡ true →
      AreFound w (declared_start S f d role) → Begins w d.at (pointer [] d.type)
  begins_as f d typedef_role is h = absurd cc
  begins_as f d enumerator_role is h = absurd cc
  begins_as f d object_role is h = h.0.0
  begins_as f d function_role is h = h.0.0
  begins_as f d (parameter_role i) is h = h.0.0
  begins_as f d (field_role n i) is h = h.0.0

  pub begins_there : (q : Bool) (f : Option Place) (token : ℕ) (d : Declared) →
      declared_at S.declared (at w token) ≡ Some d → has_skeleton d.role ≡ true →
      AreFound w (name_start (around w q f) token) → Begins w d.at (pointer [] d.type)
  begins_there q f token d there is h = begins_as f d d.role is
      (subst (λ (o : Option Declared). AreFound w (some_declared_start S f o)) there h)

  pub first_met : (token : ℕ) (d : Declared) → declared_at S.declared (at w token) ≡ Some d → FirstIs w d →
      FirstIsMet w token
  first_met token d there g other e =
      subst (λ (it : Declared). FirstIs w it) (one_declared (at w token) d other there e) g

  -- of a declaration that has a skeleton
  first_begins : (d : Declared) → has_skeleton d.role ≡ true → PlaceBegins w d.first → FirstIs w d
  first_begins d is h = (λ same. h, λ other. absurd cc)

  role_of : Bool → Role
  role_of c = if c then function_role else object_role

  thing_has : (c : Bool) → has_skeleton (if c then function_role else object_role) ≡ true
  thing_has true = refl
  thing_has false = refl

  pub stands_there : (q : Bool) (f : Option Place) (token : ℕ) (d : Declared) →
      declared_at S.declared (at w token) ≡ Some d → has_skeleton d.role ≡ true →
      AreFound w (name_start (around w q f) token) → Stands (at w token)
  stands_there q f token d there is h = (d, there, (is, begins_there q f token d there is h))

  pub meant_there : (q : Bool) (f : Option Place) (token : ℕ) (d : Declared) →
      declared_at S.declared (at w token) ≡ Some d → has_skeleton d.role ≡ true →
      AreFound w (name_start (around w q f) token) → Meant (at w token)
  meant_there q f token d there is h = meant (at w token) (stands_there q f token d there is h)

  abbrev pub thing_d : List Keyword → Place → ℕ → CType → Names → Declared
  thing_d words at name t s = record {
    at = at;
    role = if is_function t then function_role else object_role;
    first = linked name at s;
    type = t;
    owner = owner_where (with_thing words at name s) (linked name at s) at (if is_function t then Some at else None);
  }

  abbrev pub here_d : Place → ℕ → Role → CType → Option Place → Names → Declared
  here_d at name role t own s = record {
    at = at;
    role = role;
    first = the_thing (inner_meaning s name) at;
    type = t;
    owner = owner_where s (the_thing (inner_meaning s name) at) at own;
  }

  pub thing_there : (words : List Keyword) (at : Place) (name : ℕ) (t : CType) (s : Names) →
      Grows (declared_thing words at name t s) S → declared_at S.declared at ≡ Some (thing_d words at name t s)
  thing_there words at name t s g =
      found_there (with_thing words at name s).declared _ (thing_d words at name t s) refl g.declared

  pub here_there : (at : Place) (name : ℕ) (role : Role) (t : CType) (own : Option Place) (s : Names) →
      Grows (declared_here at name role t own s) S → declared_at S.declared at ≡ Some (here_d at name role t own s)
  here_there at name role t own s g = found_there s.declared _ (here_d at name role t own s) refl g.declared

  -- an object or function of the file
  pub thing_good : (q : Bool) (f : Option Place) (b : Bool) (bs : List Bool) (words : List Keyword) (token name : ℕ)
      (t : CType) (s : Names) → Grows (declared_thing words (at w token) name t s) S →
      AreFound w (name_start (around w q f) token) → Good (b ∷ bs) s →
      Good (b ∷ bs) (declared_thing words (at w token) name t s) × (FirstIsMet w token × TokenBegins w token)
  thing_good q f b bs words token name t s g found h =
      let there = thing_there words (at w token) name t s g in
      let d = thing_d words (at w token) name t s in
      let stands = stands_there q f token d there (thing_has (is_function t)) found in (
        good_thing b bs words (at w token) name t s stands h,
        (
          first_met token d there (first_begins d (thing_has (is_function t))
              (stood d.first (linked_stands (b ∷ bs) (at w token) name s h stands))),
          (pointer [] t, begins_there q f token d there (thing_has (is_function t)) found),
        ),
      )

  -- an object of a block
  pub object_good : (q : Bool) (f : Option Place) (bs : List Bool) (token name : ℕ) (t : CType) (own : Option Place)
      (s : Names) → Grows (declared_here (at w token) name object_role t own s) S →
      AreFound w (name_start (around w q f) token) → Good (true ∷ bs) s →
      Good (true ∷ bs) (declared_here (at w token) name object_role t own s) × FirstIsMet w token
  object_good q f bs token name t own s g found h =
      let there = here_there (at w token) name object_role t own s g in
      let d = here_d (at w token) name object_role t own s in
      let means_it = meant_there q f token d there refl found in (
        good_here true bs (at w token) name object_role t own s (λ e. means_it) h,
        first_met token d there (first_begins d refl
            (met d.first (here_meant true bs (at w token) name s h refl means_it)
            (well.firsts (at w token) d there refl))),
      )

  pub typedef_good : (b : Bool) (bs : List Bool) (token name : ℕ) (t : CType) (s : Names) →
      Grows (declared_typedef (at w token) name t s) S → Good (b ∷ bs) s →
      Good (b ∷ bs) (declared_typedef (at w token) name t s) × FirstIsMet w token
  typedef_good b bs token name t s g h =
      let d : Declared = record {
        at = at w token;
        role = typedef_role;
        first = at w token;
        type = t;
        owner = owner_where s (at w token) (at w token) None;
      } in (
        good_typedef b bs (at w token) name t s h,
        first_met token d (found_there s.declared _ d refl g.declared) (
          λ is. absurd cc,
          λ is first e.
              subst (λ (it : Declared). has_skeleton it.role ≡ false)
              (one_declared (at w token) d first (found_there s.declared _ d refl g.declared) e) refl,
        ),
      )

  pub enumerator_good : (b : Bool) (bs : List Bool) (token name : ℕ) (t : CType) (own : Option Place) (s : Names) →
      Grows (declared_here (at w token) name enumerator_role t own s) S → Good (b ∷ bs) s →
      Good (b ∷ bs) (declared_here (at w token) name enumerator_role t own s)
  enumerator_good b bs token name t own s g h =
      let there = here_there (at w token) name enumerator_role t own s g in
      good_here b bs (at w token) name enumerator_role t own s
      (λ e. (here_d (at w token) name enumerator_role t own s, there, tt)) h

  -- a parameter, which has a skeleton where it is a function's own
  pub param_good : (q : Bool) (f : Option Place) (c : Bool) (bs : List Bool) (it : Option Named) (i : ℕ)
      (own : Option Place) (t : CType) (s : Names) → Grows (declared_param w.spelling it i own t s) S →
      ((name : Named) → it ≡ Some name → c ≡ true → (g : Option Place)
      × AreFound w (name_start (around w q g) name.token)) →
      Good (c ∷ bs) s → Good (c ∷ bs) (declared_param w.spelling it i own t s)
  param_good q f c bs None i own t s g found h = h
  param_good q f c bs (Some it) i own t s g found h =
      let old = sized (at w it.token) t s in
      let there = here_there (at w it.token) (w.spelling.key it.name) (parameter_role i) t own old g in
      let d = here_d (at w it.token) (w.spelling.key it.name) (parameter_role i) t own old in
      good_here c bs (at w it.token) (w.spelling.key it.name) (parameter_role i) t own old
      (λ e. let one = found it refl e in meant_there q one.0 it.token d there refl one.1)
      (good_sized (c ∷ bs) (at w it.token) t s h)

  -- a parameter that is declared behind a list of identifiers
  pub old_param_good : (q : Bool) (f : Option Place) (bs : List Bool) (it : Named) (i : ℕ)
      (own : Option Place) (t : CType)
      (s : Names) → Grows (declared_param w.spelling (Some it) i own t s) S →
      AreFound w (name_start (around w q f) it.token) → Good (true ∷ bs) s →
      Good (true ∷ bs) (declared_param w.spelling (Some it) i own t s) × FirstIsMet w it.token
  old_param_good q f bs it i own t s g found h =
      let old = sized (at w it.token) t s in
      let before = good_sized (true ∷ bs) (at w it.token) t s h in
      let there = here_there (at w it.token) (w.spelling.key it.name) (parameter_role i) t own old g in
      let d = here_d (at w it.token) (w.spelling.key it.name) (parameter_role i) t own old in
      let means_it = meant_there q f it.token d there refl found in (
        good_here true bs (at w it.token) (w.spelling.key it.name) (parameter_role i) t own old (λ e. means_it) before,
        first_met it.token d there (first_begins d refl
            (met d.first (here_meant true bs (at w it.token) (w.spelling.key it.name) old before refl means_it)
            (well.firsts (at w it.token) d there refl))),
      )

  -- what is declared at its token is a parameter
  pub param_has : (it : Option Named) (i : ℕ) (own : Option Place) (t : CType) (s : Names) →
      Grows (declared_param w.spelling it i own t s) S → NamedHas (RoleHasSkeleton w) it
  param_has None i own t s g = tt
  param_has (Some it) i own t s g =
      let old = sized (at w it.token) t s in
      let there = here_there (at w it.token) (w.spelling.key it.name) (parameter_role i) t own old g in
      λ d e. subst (λ (other : Declared). has_skeleton other.role ≡ true) (one_declared (at w it.token)
      (here_d (at w it.token) (w.spelling.key it.name) (parameter_role i) t own old) d there e) refl

  -- a name of a declaration
  pub some_good : (q : Bool) (f : Option Place) (bs : List Bool) (untagged : Option ℕ) (it : Option Named)
      (words : List Keyword) (t : CType) (s : Names) → Grows (declared_some w.spelling untagged it words t s) S →
      ((name : Named) → it ≡ Some name → AreFound w (name_start (around w q f) name.token)) → Good (true ∷ bs) s →
      Good (true ∷ bs) (declared_some w.spelling untagged it words t s) × NamedHas (FirstIsMet w) it
  some_good q f bs untagged None words t s g found h = (h, tt)
  some_good q f bs untagged (Some it) words t s g found h =
      let one =
      by (has_word keywords.Typedef words) (is_at_file old || (is_function t || has_word keywords.Extern words))
      (joins (known_grows words key untagged _) g) in
      (good_known (true ∷ bs) words key untagged _ one.0, one.1)
    where
      old : Names
      old = sized (at w it.token) t s

      key : ℕ
      key = w.spelling.key it.name

      own : Option Place
      own = if has_word keywords.Static words then None else old.enclosing

      before : Good (true ∷ bs) old
      before = good_sized (true ∷ bs) (at w it.token) t s h

      by : (b c : Bool) → Grows (if b then declared_typedef (at w it.token) key t old
          else if c then declared_thing words (at w it.token) key t old
          else declared_here (at w it.token) key object_role t own old) S →
          Good (true ∷ bs) (if b then declared_typedef (at w it.token) key t old
          else if c then declared_thing words (at w it.token) key t old
          else declared_here (at w it.token) key object_role t own old) × FirstIsMet w it.token
      by true c g = typedef_good true bs it.token key t old g before
      by false true g =
          let one = thing_good q f true bs words it.token key t old g (found it refl) before in (one.0, one.1.0)
      by false false g = object_good q f bs it.token key t own old g (found it refl) before

  -- members

  pub member_good : (q : Bool) (f : Option Place) (bs : List Bool) (it : Option Named) (n : ℕ) (t : CType) (s : Names) →
      Grows (declared_member w.spelling it n t s) S →
      ((name : Named) → it ≡ Some name → AreFound w (name_start (around w q f) name.token)) → Good bs s →
      Good bs (declared_member w.spelling it n t s) × NamedHas (FirstIsMet w) it
  member_good q f bs None n t s g found h = (h, tt)
  member_good q f bs (Some it) n t s g found h =
      let d : Declared = record {
        at = at w it.token;
        role = field_role n (length (or_no_body (body_of s.aggregates n)).own);
        first = at w it.token;
        type = t;
        owner = owner_where s (at w it.token) (at w it.token) None;
      } in
      let there = found_there s.declared _ d refl g.declared in
      let begun = begins_there q f it.token d there refl (found it refl) in (
        good_member bs w.spelling it n t s begun h,
        first_met it.token d there (first_begins d refl (pointer [] t, begun)),
      )

  pub unnamed_good : (q : Bool) (f : Option Place) (bs : List Bool) (token n : ℕ) (t : CType) (s : Names) →
      Grows (unnamed_member (at w token) n t s) S → AreFound w (name_start (around w q f) token) → Good bs s →
      Good bs (unnamed_member (at w token) n t s) × TokenBegins w token
  unnamed_good q f bs token n t s g found h =
      let d : Declared = record {
        at = at w token;
        role = field_role n (length (or_no_body (body_of s.aggregates n)).own);
        first = at w token;
        type = t;
        owner = owner_where s (at w token) (at w token) None;
      } in
      let there = found_there s.declared _ d refl g.declared in
      let begun = begins_there q f token d there refl found in
      (good_unnamed bs (at w token) n t s begun h, (pointer [] t, begun))
