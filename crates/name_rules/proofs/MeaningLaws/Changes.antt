-- Each change of names keeps what names mean, where a declaration is at a new place.
use Rattle.std.proofs.Common.{◌≡◌, ◌⊎◌, inl, inr, ℕ, nat_eq, Bool, true, false, List, [], ◌∷◌, ◌++◌, length, Option, None, Some, refl, sym, ◌∙◌, ap, subst}
use Rattle.std.specs.Prelude.{◌&&◌, ◌||◌, if◌then◌else◌}
use Rattle.c_words.specs.declared.kinds.Keyword.{Keyword}
use Rattle.c_words.specs.declared.kinds.Keyword.TheVariants as keywords
use Rattle.tape_ops.specs.declared.specifier.TagKind.{TagKind}
use Rattle.type_table.specs.Types.{CType}
use Rattle.name_rules.specs.Spellings.{Spelling, Place, place, Named}
use Rattle.name_rules.specs.Scopes.{Meaning, means_type, means_thing, Scope, no_scope, Role, typedef_role, object_role, function_role, parameter_role, field_role, Declared, declared_at, Names, Aggregate, is_place, thing_of, or_place, meaning, innermost, outer_scopes, inner_meaning, is_at_file, owner_of_some, owner_at, enter, leave, bound, tag_bound, with_declared, sized, with_aggregate, or_no_body, body_of, has_body, with_body, with_key, with_member, with_unnamed, tag_in, tag_through}
use Rattle.name_rules.specs.Pieces.{is_function}
use Rattle.name_rules.specs.Declaring.{use_by, used, Numbered, found_or_new, tag_used, untagged, opened, tag_known, begun_in, tag_begun, untagged_begun, the_thing, or_at, linked, thing_where, static_where, owner_where, declaring, declared_here, declared_thing, has_word, declared_typedef, declared_by, typedef_known, declared_some, declared_param, declared_member, struct_number, unnamed_member, keep, scope_kept, body_begun, body_counted, body_entered, body_left}
use Rattle.name_rules.specs.Units.{no_names, shared, unit_begun}
use Rattle.name_rules.specs.MeaningLaws.Meanings.{Differ, IsFirst, IsThing, IsMember, HasFirst, MeaningIs, ScopesAre, ThingsAre, KeptIs, UseIs, AllFirst, AggregatesAre, AreFirst}
use Rattle.name_rules.proofs.MeaningLaws.Growing.{known_same}
use Rattle.name_rules.proofs.MeaningLaws.Lists.{shared_are, place_itself, place_is, at_more, at_new, last_is_new, scopes_map, things_map, kept_map, uses_map, aggregates_map, linked_is, through_is, innermost_is, outer_are, inner_is, uses_more, own_more, known_joined, lying_are, or_no_body_is, body_of_is, aggregates_more, changed_are, keyed_are}

-- one more declaration

-- a place where a thing is declared first stays one when a declaration is added
first_more : (ds : List Declared) (d : Declared) (p : Place) → IsFirst ds p → IsFirst (ds ++ d ∷ []) p
first_more ds d p h = record {
  it = h.it;
  there = at_more ds (d ∷ []) p h.it h.there;
  is_first = h.is_first;
  is_itself = h.is_itself;
}

-- a place where an object or function of the file is declared first stays one when a declaration is added
thing_more : (ds : List Declared) (d : Declared) (p : Place) → IsThing ds p → IsThing (ds ++ d ∷ []) p
thing_more ds d p h = record {
  it = h.it;
  there = at_more ds (d ∷ []) p h.it h.there;
  is_first = h.is_first;
  is_itself = h.is_itself;
  of_file = h.of_file;
}

thing_is_first : (ds : List Declared) (p : Place) → IsThing ds p → IsFirst ds p
thing_is_first ds p h = record { it = h.it; there = h.there; is_first = h.is_first; is_itself = h.is_itself }

-- a place where a member is declared stays one when a declaration is added
member_more : (ds : List Declared) (d : Declared) (p : Place) → IsMember ds p → IsMember (ds ++ d ∷ []) p
member_more ds d p h = record {
  it = h.it;
  there = at_more ds (d ∷ []) p h.it h.there;
  none = h.none;
  is_field = h.is_field;
}

-- declarations that all have a first one do so with one more that has
all_first_more : (ds : List Declared) (d : Declared) (xs : List Declared) → AllFirst ds xs → HasFirst (ds ++ d ∷ []) d →
    AllFirst (ds ++ d ∷ []) (xs ++ d ∷ [])
all_first_more ds d [] h k = (k, tt)
all_first_more ds d (x ∷ xs) h k = (
  record {
    first = h.0.first;
    there = at_more ds (d ∷ []) x.first h.0.first h.0.there;
    is_first = h.0.is_first;
    same_owner = h.0.same_owner;
  },
  all_first_more ds d xs h.1 k,
)

-- names that mean first declarations do so with one declaration more that has a first one
more : (s : Names) (d : Declared) → AreFirst s → HasFirst (s.declared ++ d ∷ []) d → AreFirst (with_declared d s)
more s d h k = record {
  scopes = scopes_map (IsFirst s.declared) (IsFirst (s.declared ++ d ∷ [])) (first_more s.declared d) s.scopes h.scopes;
  things = things_map (IsThing s.declared) (IsThing (s.declared ++ d ∷ [])) (thing_more s.declared d) s.things h.things;
  differ = h.differ;
  round = things_map (IsFirst s.declared) (IsFirst (s.declared ++ d ∷ [])) (first_more s.declared d) s.round h.round;
  kept = kept_map (IsFirst s.declared) (IsFirst (s.declared ++ d ∷ [])) (first_more s.declared d) s.kept h.kept;
  uses = uses_map (IsFirst s.declared) (IsFirst (s.declared ++ d ∷ [])) (first_more s.declared d) s.uses h.uses;
  firsts = all_first_more s.declared d s.declared h.firsts k;
  members = aggregates_map (IsMember s.declared) (IsMember (s.declared ++ d ∷ [])) (member_more s.declared d)
      s.aggregates h.members;
}

-- names that mean first declarations do so with other scopes whose names mean such
with_scopes : (s : Names) (scopes : List Scope) → AreFirst s → ScopesAre (IsFirst s.declared) scopes →
    AreFirst (record s { scopes = scopes })
with_scopes s scopes h k = record {
  scopes = k;
  things = h.things;
  differ = h.differ;
  round = h.round;
  kept = h.kept;
  uses = h.uses;
  firsts = h.firsts;
  members = h.members;
}

-- names that mean first declarations do so with other structs whose members are declared
pub with_aggregates : (s : Names) (aggregates : List Aggregate) → AreFirst s →
    AggregatesAre (IsMember s.declared) aggregates → AreFirst (record s { aggregates = aggregates })
with_aggregates s aggregates h k = record {
  scopes = h.scopes;
  things = h.things;
  differ = h.differ;
  round = h.round;
  kept = h.kept;
  uses = h.uses;
  firsts = h.firsts;
  members = k;
}

-- names that mean first declarations do so where the innermost scope gives a name such a meaning
with_bound : (s : Names) (name : ℕ) (m : Meaning) → AreFirst s → MeaningIs (IsFirst s.declared) m →
    AreFirst (bound name m s)
with_bound s name m h k =
    with_scopes s
    (record (innermost s.scopes) { names = (name, m) ∷ (innermost s.scopes).names } ∷ outer_scopes s.scopes) h
    ((k, innermost_is (IsFirst s.declared) s.scopes h.scopes), outer_are (IsFirst s.declared) s.scopes h.scopes)

-- things are at places where something is declared
not_at : (s : Names) (at p : Place) → declared_at s.declared at ≡ None → IsThing s.declared p → is_place p at ≡ false
not_at s at p none h = by (is_place p at) (place_is p at)
  where
    by : (b : Bool) → (b ≡ true → p ≡ at) → b ≡ false
    by true same =
        let there : declared_at s.declared at ≡ Some h.it =
        subst (λ (q : Place). declared_at s.declared q ≡ Some h.it) (same refl) h.there in
        absurd cc
    by false same = refl

-- names that mean first declarations do so with one more thing of the file, at a place where there is none
with_thing : (s : Names) (name : ℕ) (p : Place) → AreFirst s → IsThing s.declared p →
    ThingsAre (λ q. is_place q p ≡ false) s.things → AreFirst (record s { things = (name, p) ∷ s.things })
with_thing s name p h k others = record {
  scopes = h.scopes;
  things = (k, h.things);
  differ = (others, h.differ);
  round = h.round;
  kept = h.kept;
  uses = h.uses;
  firsts = h.firsts;
  members = h.members;
}

with_statics : (s : Names) (statics : List (ℕ × ℕ)) → AreFirst s → AreFirst (record s { statics = statics })
with_statics s statics h = h

-- declarations

abbrev made : Place → Role → Place → CType → Option Place → Names → Declared
made at role first t own s =
    record { at = at; role = role; first = first; type = t; owner = owner_where s first at own }

own_here : (s : Names) (at : Place) (own : Option Place) → owner_where s at at own ≡ own
own_here s at own = ap (λ (b : Bool). if b then own else owner_at s at) (place_itself at)

-- of something new

module _ (s : Names) (at : Place) (role : Role) (t : CType) (own : Option Place)
    (differ : Differ (s.declared ++ made at role at t own s ∷ [])) where
  new_there : declared_at (s.declared ++ made at role at t own s ∷ []) at ≡ Some (made at role at t own s)
  new_there = at_new s.declared (made at role at t own s) (last_is_new s.declared (made at role at t own s) differ)

  new_declared : AreFirst s → AreFirst (declaring at role at t own s)
  new_declared h =
      more s (made at role at t own s) h
      (record { first = made at role at t own s; there = new_there; is_first = refl; same_owner = refl })

  new_first : (role ≡ function_role → own ≡ Some at) → IsFirst (declaring at role at t own s).declared at
  new_first itself = record {
    it = made at role at t own s;
    there = new_there;
    is_first = refl;
    is_itself = λ e. own_here s at own ∙ itself e;
  }

  new_thing : (role ≡ function_role → own ≡ Some at) → (role ≡ function_role) ⊎ (own ≡ None) →
      IsThing (declaring at role at t own s).declared at
  new_thing itself of_file = record {
    it = made at role at t own s;
    there = new_there;
    is_first = refl;
    is_itself = λ e. own_here s at own ∙ itself e;
    of_file = by of_file;
  }
    where
      by : (role ≡ function_role) ⊎ (own ≡ None) → (role ≡ function_role) ⊎ (owner_where s at at own ≡ None)
      by (inl e) = inl e
      by (inr e) = inr (own_here s at own ∙ e)

  new_member : own ≡ None → (n i : ℕ) → role ≡ field_role n i → IsMember (declaring at role at t own s).declared at
  new_member e n i is = record {
    it = made at role at t own s;
    there = new_there;
    none = own_here s at own ∙ e;
    is_field = (n, i, is);
  }

-- of what was declared first at another place

-- at a place without a declaration the owner given to a declaration is that of the thing's first one
other_owner : (s : Names) (at p : Place) (own : Option Place) → declared_at s.declared at ≡ None →
    (h : IsFirst s.declared p) → owner_where s p at own ≡ h.it.owner
other_owner s at p own none h = by (is_place p at) (place_is p at)
  where
    by : (b : Bool) → (b ≡ true → p ≡ at) → (if b then own else owner_at s p) ≡ h.it.owner
    by true same =
        let there : declared_at s.declared at ≡ Some h.it =
        subst (λ (q : Place). declared_at s.declared q ≡ Some h.it) (same refl) h.there in
        absurd cc
    by false same = ap owner_of_some h.there

-- names mean first declarations behind a further declaration of a thing, at a new place
further_declared : (s : Names) (at : Place) (role : Role) (p : Place) (t : CType) (own : Option Place) →
    Differ (s.declared ++ made at role p t own s ∷ []) → IsFirst s.declared p → AreFirst s →
    AreFirst (declaring at role p t own s)
further_declared s at role p t own differ first h =
    more s (made at role p t own s) h (record {
      first = first.it;
      there = at_more s.declared (made at role p t own s ∷ []) p first.it first.there;
      is_first = first.is_first;
      same_owner = sym (other_owner s at p own
          (last_is_new s.declared (made at role p t own s) differ) first);
    })

-- in its scope

-- names mean first declarations behind one in the innermost scope, of a thing found there or of a new one
here_is : (s : Names) (at : Place) (name : ℕ) (role : Role) (t : CType) (own : Option Place) (inner : Option Meaning) →
    ((m : Meaning) → inner ≡ Some m → MeaningIs (IsFirst s.declared) m) →
    (role ≡ function_role → own ≡ Some at) →
    Differ (s.declared ++ made at role (the_thing inner at) t own s ∷ []) → AreFirst s →
    AreFirst (bound name (means_thing (the_thing inner at)) (declaring at role (the_thing inner at) t own s))
here_is s at name role t own (Some (means_thing p)) is itself differ h =
    with_bound (declaring at role p t own s) name (means_thing p)
    (further_declared s at role p t own differ (is (means_thing p) refl) h)
    (first_more s.declared (made at role p t own s) p (is (means_thing p) refl))
here_is s at name role t own (Some (means_type type)) is itself differ h =
    with_bound (declaring at role at t own s) name (means_thing at) (new_declared s at role t own differ h)
    (new_first s at role t own differ itself)
here_is s at name role t own None is itself differ h =
    with_bound (declaring at role at t own s) name (means_thing at) (new_declared s at role t own differ h)
    (new_first s at role t own differ itself)

-- names mean first declarations behind one in the innermost scope, at a new place
pub is_declared_here : (at : Place) (name : ℕ) (role : Role) (t : CType) (own : Option Place) (s : Names) →
    (role ≡ function_role → own ≡ Some at) → Differ (declared_here at name role t own s).declared → AreFirst s →
    AreFirst (declared_here at name role t own s)
is_declared_here at name role t own s itself differ h =
    here_is s at name role t own (inner_meaning s name)
    (λ m e. inner_is (IsFirst s.declared) s.scopes name m h.scopes e) itself differ h

-- of the file

-- names, with a thing where it is new, and these names of `static` things
abbrev noted : Bool → ℕ → Place → List (ℕ × ℕ) → Names → Names
noted is_new name at statics s = record (thing_where is_new name at s) { statics = statics }

-- names mean first declarations behind one of a thing of the file, which was found or is new
thing_is : (s : Names) (at : Place) (name : ℕ) (role : Role) (t : CType) (own : Option Place)
    (statics : List (ℕ × ℕ)) (found : Option Place) (is_new : Bool) → is_place (or_at found at) at ≡ is_new →
    ((p : Place) → found ≡ Some p → IsThing s.declared p) → (role ≡ function_role → own ≡ Some at) →
    (role ≡ function_role) ⊎ (own ≡ None) →
    Differ (declaring at role (or_at found at) t own (noted is_new name at statics s)).declared → AreFirst s →
    AreFirst (bound name (means_thing (or_at found at))
    (declaring at role (or_at found at) t own (noted is_new name at statics s)))
thing_is s at name role t own statics (Some p) true e is itself of_file differ h =
    let no = not_at s at p (last_is_new s.declared _ differ) (is p refl) in absurd cc
thing_is s at name role t own statics (Some p) false e is itself of_file differ h =
    with_bound (record (declaring at role p t own s) { statics = statics }) name (means_thing p)
    (with_statics (declaring at role p t own s) statics (further_declared s at role p t own differ first h))
    (first_more s.declared (made at role p t own s) p first)
  where
    first : IsFirst s.declared p
    first = thing_is_first s.declared p (is p refl)
thing_is s at name role t own statics None false e is itself of_file differ h =
    let same = place_itself at in absurd cc
thing_is s at name role t own statics None true e is itself of_file differ h =
    with_bound (record (declaring at role at t own s) { things = (name, at) ∷ s.things; statics = statics }) name
    (means_thing at)
    (with_statics (record (declaring at role at t own s) { things = (name, at) ∷ s.things }) statics
    (with_thing (declaring at role at t own s) name at (new_declared s at role t own differ h)
    (new_thing s at role t own differ itself of_file)
    (things_map (IsThing s.declared) (λ q. is_place q at ≡ false)
    (λ q k. not_at s at q (last_is_new s.declared (made at role at t own s) differ) k) s.things h.things)))
    (new_first s at role t own differ itself)

thing_itself : (at : Place) (b : Bool) → (if b then function_role else object_role) ≡ function_role →
    (if b then Some at else None) ≡ Some at
thing_itself at true e = refl
thing_itself at false e = absurd cc

thing_of_file : (at : Place) (b : Bool) →
    ((if b then function_role else object_role) ≡ function_role) ⊎ ((if b then Some at else None) ≡ None)
thing_of_file at true = inl refl
thing_of_file at false = inr refl

-- names mean first declarations behind one of an object or function of the file, at a new place
pub is_declared_thing : (words : List Keyword) (at : Place) (name : ℕ) (t : CType) (s : Names) →
    Differ (declared_thing words at name t s).declared → AreFirst s → AreFirst (declared_thing words at name t s)
is_declared_thing words at name t s differ h = by (has_word keywords.Static words) differ
  where
    role : Role
    role = if is_function t then function_role else object_role

    own : Option Place
    own = if is_function t then Some at else None

    is_new : Bool
    is_new = is_place (linked name at s) at

    known : (statics : List (ℕ × ℕ)) →
        Differ (declaring at role (linked name at s) t own (noted is_new name at statics s)).declared →
        AreFirst (bound name (means_thing (linked name at s))
        (declaring at role (linked name at s) t own (noted is_new name at statics s)))
    known statics d =
        thing_is s at name role t own statics (or_place (thing_of at.0 s.things name) (thing_of 0 s.things name)) is_new
        refl (linked_is (IsThing s.declared) at.0 s.things name h.things) (thing_itself at (is_function t))
        (thing_of_file at (is_function t)) d h

    by : (b : Bool) → Differ (declaring at role (linked name at s) t own
        (static_where b at.0 name (thing_where is_new name at s))).declared →
        AreFirst (bound name (means_thing (linked name at s)) (declaring at role (linked name at s) t own
        (static_where b at.0 name (thing_where is_new name at s))))
    by true d = known ((at.0, name) ∷ (thing_where is_new name at s).statics) d
    by false d = known (thing_where is_new name at s).statics d

-- names mean first declarations behind one of a typedef, at a new place
is_declared_typedef : (at : Place) (name : ℕ) (t : CType) (s : Names) →
    Differ (declared_typedef at name t s).declared → AreFirst s → AreFirst (declared_typedef at name t s)
is_declared_typedef at name t s differ h =
    with_bound (declaring at typedef_role at t None s) name (means_type t)
    (new_declared s at typedef_role t None differ h) tt

-- names mean first declarations behind one that its storage words tell the kind of, at a new place
pub is_declared_by : (words : List Keyword) (at : Place) (name : ℕ) (t : CType) (s : Names) →
    Differ (declared_by words at name t s).declared → AreFirst s → AreFirst (declared_by words at name t s)
is_declared_by words at name t s differ h =
    by (has_word keywords.Typedef words) (is_at_file s || (is_function t || has_word keywords.Extern words)) differ
  where
    own : Option Place
    own = if has_word keywords.Static words then None else s.enclosing

    by : (b c : Bool) → Differ (if b then declared_typedef at name t s else if c then declared_thing words at name t s
        else declared_here at name object_role t own s).declared →
        AreFirst (if b then declared_typedef at name t s else if c then declared_thing words at name t s
        else declared_here at name object_role t own s)
    by true c d = is_declared_typedef at name t s d h
    by false true d = is_declared_thing words at name t s d h
    by false false d = is_declared_here at name object_role t own s (λ e. absurd cc) d h

with_known : (s : Names) (n : ℕ) (by_typedef : Bool) (name : ℕ) → AreFirst s → AreFirst (with_key n by_typedef name s)
with_known s n by_typedef name h =
    with_aggregates s _ h (keyed_are (IsMember s.declared) _ s.aggregates n h.members)

-- names mean first declarations where a struct without a tag becomes known by its typedef
is_typedef_known : (words : List Keyword) (name : ℕ) (untagged : Option ℕ) (s : Names) → AreFirst s →
    AreFirst (typedef_known words name untagged s)
is_typedef_known words name None s h = h
is_typedef_known words name (Some n) s h = by (has_word keywords.Typedef words && is_at_file s)
  where
    by : (b : Bool) → AreFirst (if b then with_key n true name s else s)
    by true = with_known s n true name h
    by false = h

-- names mean first declarations behind a declarator, with a name or without one
pub is_declared_some : (u : Spelling) (untagged : Option ℕ) (it : Option Named) (words : List Keyword) (t : CType)
    (s : Names) → Differ (declared_some u untagged it words t s).declared → AreFirst s →
    AreFirst (declared_some u untagged it words t s)
is_declared_some u untagged None words t s differ h = h
is_declared_some u untagged (Some it) words t s differ h =
    is_typedef_known words (u.key it.name) untagged next
    (is_declared_by words (place u it.token) (u.key it.name) t (sized (place u it.token) t s)
    (subst Differ (known_same words (u.key it.name) untagged next) differ) h)
  where
    next : Names
    next = declared_by words (place u it.token) (u.key it.name) t (sized (place u it.token) t s)

-- names mean first declarations behind a parameter, with a name or without one
pub is_declared_param : (u : Spelling) (it : Option Named) (i : ℕ) (own : Option Place) (t : CType) (s : Names) →
    Differ (declared_param u it i own t s).declared → AreFirst s → AreFirst (declared_param u it i own t s)
is_declared_param u None i own t s differ h = h
is_declared_param u (Some it) i own t s differ h =
    is_declared_here (place u it.token) (u.key it.name) (parameter_role i) t own (sized (place u it.token) t s)
    (λ e. absurd cc) differ h

-- members

-- names mean first declarations behind a member at a new place, which its struct has from then on
member_at : (s : Names) (at : Place) (name n i : ℕ) (t : CType) →
    Differ (s.declared ++ made at (field_role n i) at t None s ∷ []) → AreFirst s →
    AreFirst (with_body n (with_member name at t) (declaring at (field_role n i) at t None s))
member_at s at name n i t differ h =
    with_aggregates (declaring at role at t None s) _ next
    (changed_are (IsMember (s.declared ++ made at role at t None s ∷ [])) (with_member name at t)
    (λ body k. (
      own_more (IsMember _) body.own (record { at = at; type = t }) k.0 member,
      known_joined (IsMember _) body.known (record { name = name; at = at; type = t; own = length body.own } ∷ []) k.1
          (member, tt),
    ))
    s.aggregates n next.members)
  where
    role : Role
    role = field_role n i

    next : AreFirst (declaring at role at t None s)
    next = new_declared s at role t None differ h

    member : IsMember (s.declared ++ made at role at t None s ∷ []) at
    member = new_member s at role t None differ refl n i refl

-- names mean first declarations behind a member, with a name or without one
pub is_declared_member : (u : Spelling) (it : Option Named) (n : ℕ) (t : CType) (s : Names) →
    Differ (declared_member u it n t s).declared → AreFirst s → AreFirst (declared_member u it n t s)
is_declared_member u None n t s differ h = h
is_declared_member u (Some it) n t s differ h =
    member_at s (place u it.token) (u.key it.name) n (length (or_no_body (body_of s.aggregates n)).own) t differ h

-- names mean first declarations behind an unnamed member, with the members that lie in it
pub is_unnamed_member : (at : Place) (n : ℕ) (t : CType) (s : Names) → Differ (unnamed_member at n t s).declared →
    AreFirst s → AreFirst (unnamed_member at n t s)
is_unnamed_member at n t s differ h =
    with_aggregates (declaring at role at t None s) _ next
    (changed_are (IsMember (s.declared ++ made at role at t None s ∷ []))
    (with_unnamed at t (or_no_body (body_of s.aggregates (struct_number t))).known)
    (λ body k. (
      own_more (IsMember _) body.own (record { at = at; type = t }) k.0 member,
      known_joined (IsMember _) body.known _ k.1
          (lying_are (IsMember _) (length body.own) (or_no_body (body_of s.aggregates (struct_number t))).known
          (or_no_body_is (IsMember _) (body_of s.aggregates (struct_number t))
          (body_of_is (IsMember _) s.aggregates (struct_number t) next.members)).1),
    ))
    s.aggregates n next.members)
  where
    role : Role
    role = field_role n (length (or_no_body (body_of s.aggregates n)).own)

    next : AreFirst (declaring at role at t None s)
    next = new_declared s at role t None differ h

    member : IsMember (s.declared ++ made at role at t None s ∷ []) at
    member = new_member s at role t None differ refl n _ refl

-- tags

-- names mean first declarations with one struct more, which has no body
with_one_more : (kind : TagKind) (at : Place) (s : Names) → AreFirst s → AreFirst (with_aggregate kind at s)
with_one_more kind at s h =
    with_aggregates s _ h (aggregates_more (IsMember s.declared) s.aggregates
    (record { kind = kind; at = at; body = None; key = None }) h.members tt)

-- names mean first declarations where the innermost scope gets a tag
with_tag_bound : (kind : TagKind) (tag n : ℕ) (s : Names) → AreFirst s → AreFirst (tag_bound kind tag n s)
with_tag_bound kind tag n s h =
    with_scopes s _ h (
      innermost_is (IsFirst s.declared) s.scopes h.scopes,
      outer_are (IsFirst s.declared) s.scopes h.scopes,
    )

-- names mean first declarations behind a tag that was found, or is new in the innermost scope
found_tag : (found : Option ℕ) (u : Spelling) (kind : TagKind) (token tag : ℕ) (s : Names) → AreFirst s →
    AreFirst (found_or_new found u kind token tag s).names
found_tag (Some n) u kind token tag s h = h
found_tag None u kind token tag s h =
    with_tag_bound kind (u.key tag) (length s.aggregates) (with_aggregate kind (place u token) s)
    (with_one_more kind (place u token) s h)

-- names mean first declarations behind a use of a tag without a body
pub is_tag_used : (u : Spelling) (alone : Bool) (kind : TagKind) (token tag : ℕ) (s : Names) → AreFirst s →
    AreFirst (tag_used u alone kind token tag s).names
is_tag_used u alone kind token tag s h =
    found_tag (if alone then tag_in (innermost s.scopes).tags kind (u.key tag)
    else tag_through s.scopes kind (u.key tag)) u kind token tag s h

is_opened : (n : ℕ) (s : Names) → AreFirst s → AreFirst (opened n s)
is_opened n s h =
    with_aggregates s _ h (changed_are (IsMember s.declared) (λ body. body) (λ body k. k) s.aggregates n h.members)

-- names mean first declarations where a struct of the file becomes known by its tag
is_tag_known : (tag : Option ℕ) (n : ℕ) (s : Names) → AreFirst s → AreFirst (tag_known tag n s)
is_tag_known None n s h = h
is_tag_known (Some tag) n s h = by (is_at_file s)
  where
    by : (b : Bool) → AreFirst (if b then with_key n false tag s else s)
    by true = with_known s n false tag h
    by false = h

-- names mean first declarations where a body begins, in the struct found or, where that has one, a new one
is_begun_in : (b : Bool) (at : Place) (kind : TagKind) (tag : Option ℕ) (it : Numbered) → AreFirst it.names →
    AreFirst (begun_in b at kind tag it).names
is_begun_in true at kind tag it h =
    is_opened (length it.names.aggregates) (with_aggregate kind at it.names) (with_one_more kind at it.names h)
is_begun_in false at kind tag it h =
    is_tag_known tag it.number (opened it.number it.names) (is_opened it.number it.names h)

-- names mean first declarations where the body of a tag begins
pub is_tag_begun : (u : Spelling) (kind : TagKind) (token tag : ℕ) (s : Names) → AreFirst s →
    AreFirst (tag_begun u kind token tag s).names
is_tag_begun u kind token tag s h =
    is_begun_in (has_body (body_of (tag_used u true kind token tag s).names.aggregates
    (tag_used u true kind token tag s).number)) (place u token) kind (Some (u.key tag))
    (tag_used u true kind token tag s) (is_tag_used u true kind token tag s h)

-- names mean first declarations where a body without a tag begins
pub is_untagged_begun : (at : Place) (kind : TagKind) (s : Names) → AreFirst s →
    AreFirst (untagged_begun at kind s).names
is_untagged_begun at kind s h =
    is_begun_in (has_body (body_of (untagged at kind s).names.aggregates (untagged at kind s).number)) at kind None
    (untagged at kind s) (with_one_more kind at s h)

-- uses and scopes

-- a use by a meaning that is a first declaration stands for one, or for nothing
use_is : (s : Names) (found : Option Meaning) (c : Bool) → ((m : Meaning) → found ≡ Some m →
    MeaningIs (IsFirst s.declared) m) → UseIs (IsFirst s.declared) (use_by found c)
use_is s None true h = tt
use_is s None false h = tt
use_is s (Some (means_thing at)) c h = h (means_thing at) refl
use_is s (Some (means_type t)) c h = tt

-- names mean first declarations behind a use of a name
pub is_used : (u : Spelling) (c : Bool) (token name : ℕ) (s : Names) → AreFirst s → AreFirst (used u c token name s)
is_used u c token name s h = record {
  scopes = h.scopes;
  things = h.things;
  differ = h.differ;
  round = h.round;
  kept = h.kept;
  uses = uses_more (IsFirst s.declared) s.uses
      (record { at = place u token; use_of = use_by (meaning s (u.key name)) c }) h.uses
      (use_is s (meaning s (u.key name)) c
      (λ m e. through_is (IsFirst s.declared) s.scopes s.round (u.key name) m h.scopes h.round e));
  firsts = h.firsts;
  members = h.members;
}

pub is_entered : (s : Names) → AreFirst s → AreFirst (enter s)
is_entered s h = with_scopes s (no_scope ∷ s.scopes) h (tt, h.scopes)

pub is_left : (s : Names) → AreFirst s → AreFirst (leave s)
is_left s h = with_scopes s (outer_scopes s.scopes) h (outer_are (IsFirst s.declared) s.scopes h.scopes)

-- names mean first declarations where a parameter scope ends, kept for the function's body or let go
pub is_kept : (own : Option Place) (s : Names) → AreFirst s → AreFirst (keep own s)
is_kept None s h = is_left s h
is_kept (Some own) s h = record {
  scopes = outer_are (IsFirst s.declared) s.scopes h.scopes;
  things = h.things;
  differ = h.differ;
  round = h.round;
  kept = innermost_is (IsFirst s.declared) s.scopes h.scopes;
  uses = h.uses;
  firsts = h.firsts;
  members = h.members;
}

kept_are : (P : Place → Type 0) (kept : Option Scope) (scopes : List Scope) → KeptIs P kept → ScopesAre P scopes →
    ScopesAre P (scope_kept kept scopes)
kept_are P None scopes h k = k
kept_are P (Some scope) scopes h k = (h, k)

-- names mean first declarations where the body of a function begins, with the scope kept for it
is_body_begun : (first : Place) (s : Names) → AreFirst s → AreFirst (body_begun first s)
is_body_begun first s h = record {
  scopes = kept_are (IsFirst s.declared) s.kept s.scopes h.kept h.scopes;
  things = h.things;
  differ = h.differ;
  round = h.round;
  kept = tt;
  uses = h.uses;
  firsts = h.firsts;
  members = h.members;
}

pub is_body_entered : (at first : Place) (plain counted : Bool) (s : Names) → AreFirst s →
    AreFirst (body_entered at first plain counted s)
is_body_entered at first plain true s h = is_body_begun first (body_counted at first plain s) h
is_body_entered at first plain false s h = is_body_begun first s h

pub is_body_left : (s : Names) → AreFirst s → AreFirst (body_left s)
is_body_left s h = is_left s h

-- units

-- names mean first declarations where a unit begins
pub is_unit_begun : (unit : ℕ) (s : Names) → AreFirst s → AreFirst (unit_begun unit s)
is_unit_begun unit s h = record {
  scopes = (tt, tt);
  things = h.things;
  differ = h.differ;
  round = by (nat_eq unit 1);
  kept = h.kept;
  uses = h.uses;
  firsts = h.firsts;
  members = h.members;
}
  where
    by : (b : Bool) → ThingsAre (IsFirst s.declared) (if b then shared s (innermost s.scopes).names else s.round)
    by true = shared_are (IsFirst s.declared) s (innermost s.scopes).names
        (innermost_is (IsFirst s.declared) s.scopes h.scopes)
    by false = h.round

-- where there are no names, all that they mean is declared first
pub no_names_are : AreFirst no_names
no_names_are = record {
  scopes = (tt, tt);
  things = tt;
  differ = tt;
  round = tt;
  kept = tt;
  uses = tt;
  firsts = tt;
  members = tt;
}
