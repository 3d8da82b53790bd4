-- What a use or a declaration makes of names is at good places, where that itself is.
use Rattle.std.proofs.Common.{ℕ, Bool, true, false, List, [], ◌∷◌, ◌++◌, length, Option, None, Some}
use Rattle.std.specs.Prelude.{◌&&◌, ◌||◌, nat_lt, if◌then◌else◌}
use Rattle.c_words.specs.declared.kinds.Keyword.{Keyword}
use Rattle.c_words.specs.declared.kinds.Keyword.TheVariants as keywords
use Rattle.tape_ops.specs.declared.specifier.TagKind.{TagKind}
use Rattle.type_table.specs.Types.{CType, size}
use Rattle.name_rules.specs.Spellings.{Place, Spelling, place, Named}
use Rattle.name_rules.specs.Faults.{Fault, type_too_large, undeclared, defined_twice, fault_where}
use Rattle.name_rules.specs.Scopes.{Meaning, means_type, means_thing, Role, typedef_role, object_role, function_role, parameter_role, field_role, Use, NameUse, Names, Body, tag_in, tag_through, innermost, inner_meaning, is_at_file, enter, leave, bound, tag_bound, with_faults, sized, with_aggregate, or_no_body, body_of, has_body, with_body, with_key, with_member, with_unnamed, is_place}
use Rattle.name_rules.specs.Pieces.{is_function}
use Rattle.name_rules.specs.Declaring.{is_missing, used_as, type_named, new_tag, Numbered, found_or_new, tag_used, untagged, tag_known, begun_in, tag_begun, untagged_begun, struct_number, the_thing, owner_where, declaring, declared_here, linked, has_word, thing_where, static_where, declared_thing, declared_typedef, declared_by, typedef_known, declared_some, declared_param, declared_member, unnamed_member, keep, has_body_in, body_counted, body_begun, body_entered, body_left}
use Rattle.name_rules.specs.Units.{no_names, unit_begun}
use Rattle.token_laws.proofs.Types.{Ok, MeansOk, FaultsOk, Sound, faults_append, fault_ok, declared_append, named_append, inner_names, outer_ok, NamedAt, kept_there}

module _ {S : Place → Type 0} where
  -- what changes nothing of this

  pub tag_there : (kind : TagKind) (tag n : ℕ) {s : Names} → Sound S s → Sound S (tag_bound kind tag n s)
  tag_there kind tag n {s} h = record {
    declared = h.declared;
    scopes = (inner_names S s.scopes h.scopes, outer_ok S s.scopes h.scopes);
    kept = h.kept;
    type_names = h.type_names;
    faults = h.faults;
    bodies = h.bodies;
  }

  pub aggregate_there : (kind : TagKind) (at : Place) {s : Names} → Sound S s → Sound S (with_aggregate kind at s)
  aggregate_there kind at h = record {
    declared = h.declared;
    scopes = h.scopes;
    kept = h.kept;
    type_names = h.type_names;
    faults = h.faults;
    bodies = h.bodies;
  }

  pub body_there : (n : ℕ) (change : Body → Body) {s : Names} → Sound S s → Sound S (with_body n change s)
  body_there n change h = record {
    declared = h.declared;
    scopes = h.scopes;
    kept = h.kept;
    type_names = h.type_names;
    faults = h.faults;
    bodies = h.bodies;
  }

  pub key_there : (n : ℕ) (by : Bool) (name : ℕ) {s : Names} → Sound S s → Sound S (with_key n by name s)
  key_there n by name h = record {
    declared = h.declared;
    scopes = h.scopes;
    kept = h.kept;
    type_names = h.type_names;
    faults = h.faults;
    bodies = h.bodies;
  }

  thing_there : (is_new : Bool) (name : ℕ) (at : Place) {s : Names} → Sound S s → Sound S (thing_where is_new name at s)
  thing_there true name at h = record {
    declared = h.declared;
    scopes = h.scopes;
    kept = h.kept;
    type_names = h.type_names;
    faults = h.faults;
    bodies = h.bodies;
  }
  thing_there false name at h = h

  static_there : (is : Bool) (unit name : ℕ) {s : Names} → Sound S s → Sound S (static_where is unit name s)
  static_there true unit name h = record {
    declared = h.declared;
    scopes = h.scopes;
    kept = h.kept;
    type_names = h.type_names;
    faults = h.faults;
    bodies = h.bodies;
  }
  static_there false unit name h = h

  -- faults

  pub faults_there : (fs : List Fault) → FaultsOk S fs → {s : Names} → Sound S s → Sound S (with_faults fs s)
  faults_there fs f {s} h = record {
    declared = h.declared;
    scopes = h.scopes;
    kept = h.kept;
    type_names = h.type_names;
    faults = faults_append S s.faults fs h.faults f;
    bodies = h.bodies;
  }

  pub sized_there : (at : Place) (t : CType) → S at → {s : Names} → Sound S s → Sound S (sized at t s)
  sized_there at t is h =
      faults_there (fault_where (nat_lt 4096 (size t)) at type_too_large)
      (fault_ok S (nat_lt 4096 (size t)) at type_too_large is) h

  -- uses

  uses_there : (uses : List NameUse) {s : Names} → Sound S s → Sound S (record s { uses = uses })
  uses_there uses h = record {
    declared = h.declared;
    scopes = h.scopes;
    kept = h.kept;
    type_names = h.type_names;
    faults = h.faults;
    bodies = h.bodies;
  }

  pub used_there : (at : Place) (it : Use) → S at → {s : Names} → Sound S s → Sound S (used_as at it s)
  used_there at it is {s} h =
      faults_there (fault_where (is_missing it) at undeclared) (fault_ok S (is_missing it) at undeclared is)
      (uses_there (s.uses ++ record { at = at; use_of = it } ∷ []) h)

  types_there : (at : Place) (t : CType) → Ok S t → {s : Names} → Sound S s →
      Sound S (record s { type_names = s.type_names ++ record { at = at; type = t } ∷ [] })
  types_there at t ok {s} h = record {
    declared = h.declared;
    scopes = h.scopes;
    kept = h.kept;
    type_names = named_append S s.type_names (record { at = at; type = t } ∷ []) h.type_names (ok, tt);
    faults = h.faults;
    bodies = h.bodies;
  }

  pub type_named_there : (at : Place) (t : CType) → S at → Ok S t → {s : Names} → Sound S s
      → Sound S (type_named at t s)
  type_named_there at t is ok h = sized_there at t is (types_there at t ok h)

  -- tags

  new_there : (u : Spelling) (kind : TagKind) (token tag : ℕ) {s : Names} → Sound S s
      → Sound S (new_tag u kind token tag s)
  new_there u kind token tag {s} h =
      tag_there kind (u.key tag) (length s.aggregates) (aggregate_there kind (place u token) h)

  found_there : (n : Option ℕ) (u : Spelling) (kind : TagKind) (token tag : ℕ) (s : Names) → Sound S s →
      Sound S (found_or_new n u kind token tag s).names
  found_there None u kind token tag s h = new_there u kind token tag h
  found_there (Some n) u kind token tag s h = h

  pub tag_used_there : (u : Spelling) (is_alone : Bool) (kind : TagKind) (token tag : ℕ) (s : Names) → Sound S s →
      Sound S (tag_used u is_alone kind token tag s).names
  tag_used_there u is_alone kind token tag s h = found_there
      (if is_alone then tag_in (innermost s.scopes).tags kind (u.key tag) else tag_through s.scopes kind (u.key tag))
      u kind token tag s h

  known_there : (tag : Option ℕ) (n : ℕ) {s : Names} → Sound S s → Sound S (tag_known tag n s)
  known_there None n h = h
  known_there (Some tag) n {s} h = by (is_at_file s)
    where
      by : (b : Bool) → Sound S (if b then with_key n false tag s else s)
      by true = key_there n false tag h
      by false = h

  begun_there : (is : Bool) (at : Place) (kind : TagKind) (tag : Option ℕ) (it : Numbered) → S at → Sound S it.names →
      Sound S (begun_in is at kind tag it).names
  begun_there true at kind tag it is h =
      faults_there (fault_where true at defined_twice) (is, tt)
      (body_there (length it.names.aggregates) (λ body. body) (aggregate_there kind at h))
  begun_there false at kind tag it is h = known_there tag it.number (body_there it.number (λ body. body) h)

  pub tag_begun_there : (u : Spelling) (kind : TagKind) (token tag : ℕ) (s : Names) → S (place u token) → Sound S s →
      Sound S (tag_begun u kind token tag s).names
  tag_begun_there u kind token tag s is h =
      let it = tag_used u true kind token tag s in
      begun_there (has_body (body_of it.names.aggregates it.number)) (place u token) kind (Some (u.key tag)) it is
      (tag_used_there u true kind token tag s h)

  pub untagged_begun_there : (at : Place) (kind : TagKind) (s : Names) → S at → Sound S s →
      Sound S (untagged_begun at kind s).names
  untagged_begun_there at kind s is h =
      let it = untagged at kind s in
      begun_there (has_body (body_of it.names.aggregates it.number)) at kind None it is (aggregate_there kind at h)

  -- declaring

  pub bound_there : (name : ℕ) (m : Meaning) → MeansOk S m → {s : Names} → Sound S s → Sound S (bound name m s)
  bound_there name m is {s} h = record {
    declared = h.declared;
    scopes = ((is, inner_names S s.scopes h.scopes), outer_ok S s.scopes h.scopes);
    kept = h.kept;
    type_names = h.type_names;
    faults = h.faults;
    bodies = h.bodies;
  }

  pub declaring_there : (at : Place) (role : Role) (first : Place) (t : CType) (own : Option Place) → S at → Ok S t →
      {s : Names} → Sound S s → Sound S (declaring at role first t own s)
  declaring_there at role first t own is ok {s} h = record {
    declared = declared_append S s.declared
        (record { at = at; role = role; first = first; type = t; owner = owner_where s first at own } ∷ [])
        h.declared ((is, ok), tt);
    scopes = h.scopes;
    kept = h.kept;
    type_names = h.type_names;
    faults = h.faults;
    bodies = h.bodies;
  }

  pub declared_here_there : (at : Place) (name : ℕ) (role : Role) (t : CType) (own : Option Place) → S at → Ok S t →
      {s : Names} → Sound S s → Sound S (declared_here at name role t own s)
  declared_here_there at name role t own is ok {s} h =
      bound_there name (means_thing (the_thing (inner_meaning s name) at)) tt
      (declaring_there at role (the_thing (inner_meaning s name) at) t own is ok h)

  declared_thing_there : (words : List Keyword) (at : Place) (name : ℕ) (t : CType) → S at → Ok S t → {s : Names} →
      Sound S s → Sound S (declared_thing words at name t s)
  declared_thing_there words at name t is ok {s} h =
      bound_there name (means_thing (linked name at s)) tt
      (declaring_there at (if is_function t then function_role else object_role) (linked name at s) t
      (if is_function t then Some at else None) is ok
      (static_there (has_word keywords.Static words) at.0 name
      (thing_there (is_place (linked name at s) at) name at h)))

  declared_typedef_there : (at : Place) (name : ℕ) (t : CType) → S at → Ok S t → {s : Names} → Sound S s →
      Sound S (declared_typedef at name t s)
  declared_typedef_there at name t is ok h =
      bound_there name (means_type t) ok (declaring_there at typedef_role at t None is ok h)

  either : (b : Bool) {s r : Names} → Sound S s → Sound S r → Sound S (if b then s else r)
  either true h i = h
  either false h i = i

  declared_by_there : (words : List Keyword) (at : Place) (name : ℕ) (t : CType) → S at → Ok S t → {s : Names}
      → Sound S s →
      Sound S (declared_by words at name t s)
  declared_by_there words at name t is ok {s} h =
      either (has_word keywords.Typedef words) (declared_typedef_there at name t is ok h)
      (either (is_at_file s || (is_function t || has_word keywords.Extern words))
      (declared_thing_there words at name t is ok h)
      (declared_here_there at name object_role t
      (if has_word keywords.Static words then None else s.enclosing) is ok h))

  typedef_there : (words : List Keyword) (name : ℕ) (n : Option ℕ) {s : Names} → Sound S s →
      Sound S (typedef_known words name n s)
  typedef_there words name None h = h
  typedef_there words name (Some n) {s} h =
      either (has_word keywords.Typedef words && is_at_file s) (key_there n true name h) h

  pub declared_some_there : (u : Spelling) (n : Option ℕ) (it : Option Named) (words : List Keyword) (t : CType) →
      NamedAt S u it → Ok S t → {s : Names} → Sound S s → Sound S (declared_some u n it words t s)
  declared_some_there u n None words t is ok h = h
  declared_some_there u n (Some it) words t is ok h =
      typedef_there words (u.key it.name) n
      (declared_by_there words (place u it.token) (u.key it.name) t is ok (sized_there (place u it.token) t is h))

  pub declared_param_there : (u : Spelling) (it : Option Named) (i : ℕ) (own : Option Place) (t : CType) →
      NamedAt S u it → Ok S t → {s : Names} → Sound S s → Sound S (declared_param u it i own t s)
  declared_param_there u None i own t is ok h = h
  declared_param_there u (Some it) i own t is ok h =
      declared_here_there (place u it.token) (u.key it.name) (parameter_role i) t own is ok
      (sized_there (place u it.token) t is h)

  pub declared_member_there : (u : Spelling) (it : Option Named) (n : ℕ) (t : CType) → NamedAt S u it → Ok S t →
      {s : Names} → Sound S s → Sound S (declared_member u it n t s)
  declared_member_there u None n t is ok h = h
  declared_member_there u (Some it) n t is ok {s} h =
      sized_there (place u it.token) t is
      (body_there n (with_member (u.key it.name) (place u it.token) t) (declaring_there (place u it.token)
      (field_role n (length (or_no_body (body_of s.aggregates n)).own)) (place u it.token) t None is ok h))

  pub unnamed_there : (at : Place) (n : ℕ) (t : CType) → S at → Ok S t → {s : Names} → Sound S s →
      Sound S (unnamed_member at n t s)
  unnamed_there at n t is ok {s} h =
      body_there n (with_unnamed at t (or_no_body (body_of s.aggregates (struct_number t))).known)
      (declaring_there at (field_role n (length (or_no_body (body_of s.aggregates n)).own)) at t None is ok h)

  -- scopes and functions

  pub enter_there : {s : Names} → Sound S s → Sound S (enter s)
  enter_there h = record {
    declared = h.declared;
    scopes = (tt, h.scopes);
    kept = h.kept;
    type_names = h.type_names;
    faults = h.faults;
    bodies = h.bodies;
  }

  pub leave_there : {s : Names} → Sound S s → Sound S (leave s)
  leave_there {s} h = record {
    declared = h.declared;
    scopes = outer_ok S s.scopes h.scopes;
    kept = h.kept;
    type_names = h.type_names;
    faults = h.faults;
    bodies = h.bodies;
  }

  scope_there : {s : Names} → Sound S s → Sound S (record s { kept = Some (innermost s.scopes) })
  scope_there {s} h = record {
    declared = h.declared;
    scopes = h.scopes;
    kept = inner_names S s.scopes h.scopes;
    type_names = h.type_names;
    faults = h.faults;
    bodies = h.bodies;
  }

  pub keep_there : (own : Option Place) {s : Names} → Sound S s → Sound S (keep own s)
  keep_there None h = leave_there h
  keep_there (Some own) h = leave_there (scope_there h)

  counted_there : (at first : Place) (is_plain : Bool) → S at → {s : Names} → Sound S s →
      Sound S (body_counted at first is_plain s)
  counted_there at first is_plain is {s} h = record {
    declared = h.declared;
    scopes = h.scopes;
    kept = h.kept;
    type_names = h.type_names;
    faults = faults_append S s.faults (fault_where (has_body_in at.0 s.bodies first) at defined_twice) h.faults
        (fault_ok S (has_body_in at.0 s.bodies first) at defined_twice is);
    bodies = (is, h.bodies);
  }

  begins_there : (first : Place) {s : Names} → Sound S s → Sound S (body_begun first s)
  begins_there first {s} h = record {
    declared = h.declared;
    scopes = kept_there S s.kept s.scopes h.kept h.scopes;
    kept = tt;
    type_names = h.type_names;
    faults = h.faults;
    bodies = h.bodies;
  }

  pub body_entered_there : (at first : Place) (is_plain is_counted : Bool) → S at → {s : Names} → Sound S s →
      Sound S (body_entered at first is_plain is_counted s)
  body_entered_there at first is_plain is_counted is {s} h =
      begins_there first (either is_counted (counted_there at first is_plain is h) h)

  outside_there : {s : Names} → Sound S s → Sound S (record s { enclosing = None })
  outside_there h = record {
    declared = h.declared;
    scopes = h.scopes;
    kept = h.kept;
    type_names = h.type_names;
    faults = h.faults;
    bodies = h.bodies;
  }

  pub body_left_there : {s : Names} → Sound S s → Sound S (body_left s)
  body_left_there h = leave_there (outside_there h)

  -- units

  pub none_sound : Sound S no_names
  none_sound = record { declared = tt; scopes = (tt, tt); kept = tt; type_names = tt; faults = tt; bodies = tt }

  pub unit_there : (unit : ℕ) {s : Names} → Sound S s → Sound S (unit_begun unit s)
  unit_there unit h = record {
    declared = h.declared;
    scopes = (tt, tt);
    kept = h.kept;
    type_names = h.type_names;
    faults = h.faults;
    bodies = h.bodies;
  }
