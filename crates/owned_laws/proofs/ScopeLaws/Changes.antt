-- Each change of names in an item keeps of which places they are, and what it finds is of the item or of the file.
use Rattle.std.proofs.Common.{◌≡◌, ◌⊎◌, inl, inr, ℕ, Bool, true, false, List, [], ◌∷◌, ◌++◌, Option, None, Some, refl, sym, ◌∙◌, ap, subst, append_assoc, append-nil}
use Rattle.std.specs.Prelude.{◌&&◌, ◌||◌, slice_get, if◌then◌else◌}
use Rattle.c_words.specs.declared.kinds.Keyword.{Keyword}
use Rattle.c_words.specs.declared.kinds.Keyword.TheVariants as keywords
use Rattle.tape_ops.specs.declared.specifier.TagKind.{TagKind}
use Rattle.type_table.specs.Types.{CType, base}
use Rattle.owned_laws.specs.TapeLaws.Marks.{Mark}
use Rattle.name_rules.specs.Spellings.{Spelling, place, Named, Place}
use Rattle.name_rules.specs.Scopes.{parameter_role, meaning, sized, body_of, has_body, tag_in, tag_through, Meaning, means_type, means_thing, Scope, Role, typedef_role, object_role, function_role, enumerator_role, Declared, declared_at, Names, NameUse, is_place, thing_of, or_place, innermost, outer_scopes, inner_meaning, is_at_file, owner_at, bound, with_key, with_faults}
use Rattle.name_rules.specs.Pieces.{is_function}
use Rattle.name_rules.specs.Declaring.{use_by, used, Numbered, found_or_new, tag_used, untagged, opened, tag_known, begun_in, tag_begun, untagged_begun, declared_some, declared_param, declared_member, unnamed_member, the_thing, or_at, linked, thing_where, static_where, owner_where, declaring, declared_here, declared_thing, has_word, declared_typedef, declared_by, typedef_known}
use Rattle.name_rules.specs.Faults.{defined_twice, fault_where}
use Rattle.name_rules.specs.Identifiers.{Olds, is_typed, number_of_identifier, old_declared, old_declared_some}
use Rattle.row_rules.specs.Sites.{has_place}
use Rattle.name_rules.specs.MeaningLaws.Meanings.{Differ, MeaningIs, ThingsAre, UseIs}
use Rattle.owned_laws.specs.ScopeLaws.Staying.{IsOfFile, IsWithin}
use Rattle.name_rules.proofs.MeaningLaws.Growing.{Grown, known_same}
use Rattle.name_rules.proofs.MeaningLaws.Lists.{place_itself, place_is, through_is, at_more, at_new, differ_before, last_is_new, linked_is, named_is}
use Rattle.owned_laws.proofs.ScopeLaws.Fitting.{around_within, NameIn, Around, AtTop, around_top, around_with, file_at_top, top_within, inside_at_top, Keeps}

-- of each one of a list
abbrev pub Every : {A : Type 0} → (A → Type 0) → List A → Type 0
Every Q [] = Unit {0}
Every Q (x ∷ xs) = Q x × Every Q xs

every_joined : {A : Type 0} (Q : A → Type 0) (xs ys : List A) → Every Q xs → Every Q ys → Every Q (xs ++ ys)
every_joined Q [] ys h k = k
every_joined Q (x ∷ xs) ys h k = (h.0, every_joined Q xs ys h.1 k)

every_map : {A : Type 0} (Q R : A → Type 0) (f : (x : A) → Q x → R x) (xs : List A) → Every Q xs → Every R xs
every_map Q R f [] h = tt
every_map Q R f (x ∷ xs) h = (f x h.0, every_map Q R f xs h.1)

-- uses and declarations that are added behind those that are there
pub record Adds (U : NameUse → Type 0) (D : Declared → Type 0) (us : List NameUse) (ds : List Declared)
    (us2 : List NameUse) (ds2 : List Declared) : Type 0 where
  pub uses : List NameUse
  pub uses_is : us2 ≡ us ++ uses
  pub uses_are : Every U uses
  pub more : List Declared
  pub declared_is : ds2 ≡ ds ++ more
  pub declared_are : Every D more

module _ {U : NameUse → Type 0} {D : Declared → Type 0} where
  adds_same : {us us2 : List NameUse} {ds ds2 : List Declared} → us2 ≡ us → ds2 ≡ ds → Adds U D us ds us2 ds2
  adds_same {us} {us2} {ds} {ds2} e f = record {
    uses = [];
    uses_is = e ∙ sym (append-nil us);
    uses_are = tt;
    more = [];
    declared_is = f ∙ sym (append-nil ds);
    declared_are = tt;
  }

  pub adds_none : {us : List NameUse} {ds : List Declared} → Adds U D us ds us ds
  adds_none = adds_same refl refl

  adds_one : {us : List NameUse} {ds : List Declared} (d : Declared) → D d → Adds U D us ds us (ds ++ d ∷ [])
  adds_one {us} {ds} d h = record {
    uses = [];
    uses_is = sym (append-nil us);
    uses_are = tt;
    more = d ∷ [];
    declared_is = refl;
    declared_are = (h, tt);
  }

  adds_use : {us : List NameUse} {ds : List Declared} (it : NameUse) → U it → Adds U D us ds (us ++ it ∷ []) ds
  adds_use {us} {ds} it h = record {
    uses = it ∷ [];
    uses_is = refl;
    uses_are = (h, tt);
    more = [];
    declared_is = sym (append-nil ds);
    declared_are = tt;
  }

  pub adds_then : (us1 us2 us3 : List NameUse) (ds1 ds2 ds3 : List Declared) → Adds U D us1 ds1 us2 ds2 →
      Adds U D us2 ds2 us3 ds3 → Adds U D us1 ds1 us3 ds3
  adds_then us1 us2 us3 ds1 ds2 ds3 g h = record {
    uses = g.uses ++ h.uses;
    uses_is = h.uses_is ∙ (ap (λ (xs : List NameUse). xs ++ h.uses) g.uses_is ∙ append_assoc us1 g.uses h.uses);
    uses_are = every_joined U g.uses h.uses g.uses_are h.uses_are;
    more = g.more ++ h.more;
    declared_is = h.declared_is ∙ (ap (λ (xs : List Declared). xs ++ h.more) g.declared_is
        ∙ append_assoc ds1 g.more h.more);
    declared_are = every_joined D g.more h.more g.declared_are h.declared_are;
  }

-- what is added with some properties is added with weaker ones
pub adds_map : {U V : NameUse → Type 0} {D E : Declared → Type 0} {us us2 : List NameUse} {ds ds2 : List Declared} →
    ((it : NameUse) → U it → V it) → ((d : Declared) → D d → E d) → Adds U D us ds us2 ds2 → Adds V E us ds us2 ds2
adds_map {U} {V} {D} {E} f g h = record {
  uses = h.uses;
  uses_is = h.uses_is;
  uses_are = every_map U V f h.uses h.uses_are;
  more = h.more;
  declared_is = h.declared_is;
  declared_are = every_map D E g h.more h.declared_are;
}

abbrev made : Place → Role → Place → CType → Option Place → Names → Declared
made at role first t own s =
    record { at = at; role = role; first = first; type = t; owner = owner_where s first at own }

-- what is known at last, and the places of an item
module _ (S : Names) (differ : Differ S.declared) (keys : List Place) where
  abbrev N : Place → Type 0
  N q = IsOfFile S q

  abbrev P : Place → Type 0
  P q = IsWithin S keys q

  file_within : (q : Place) → N q → P q
  file_within q h = inr h

  -- a use and a declaration at a place of the item, of what is of the item or of the file
  abbrev pub UseWithin : NameUse → Type 0
  UseWithin it = (has_place keys it.at ≡ true) × UseIs P it.use_of

  abbrev pub DeclaredWithin : Declared → Type 0
  DeclaredWithin d = (has_place keys d.at ≡ true) × P d.first

  -- what is known of names
  pub record Fit (m : List Mark) (scopes : List Scope) (kept : Option Scope) (ts rs : List (ℕ × Place)) : Type 0 where
    pub around : Around N P m scopes
    pub keeps : Keeps P m kept
    pub things : ThingsAre N ts
    pub round : ThingsAre N rs

  abbrev pub Fits : List Mark → Names → Type 0
  Fits m s = Fit m s.scopes s.kept s.things s.round

  abbrev pub AddsTo : Names → Names → Type 0
  AddsTo s next = Adds UseWithin DeclaredWithin s.uses s.declared next.uses next.declared

  -- what is made of the names s, and what that adds
  abbrev pub Goes : List Mark → Names → Names → Type 0
  Goes m s next = Fits m next × AddsTo s next

  -- at last the new declaration is the one at its place
  there : (old : List Declared) (d : Declared) → Grown (old ++ d ∷ []) S.declared → declared_at S.declared d.at ≡ Some d
  there old d g =
      subst (λ (ds : List Declared). declared_at ds d.at ≡ Some d) (sym g.is)
      (at_more (old ++ d ∷ []) g.added d.at d (at_new old d
      (last_is_new old d (differ_before (old ++ d ∷ []) g.added (subst Differ g.is differ)))))

  of_file : (old : List Declared) (d : Declared) → Grown (old ++ d ∷ []) S.declared →
      (d.role ≡ function_role) ⊎ (d.owner ≡ None) → N d.at
  of_file old d g k found e =
      let same : d ≡ found = (let both = sym (there old d g) ∙ e in cc) in
      subst (λ (it : Declared). (it.role ≡ function_role) ⊎ (it.owner ≡ None)) same k

  with_name : (m : List Mark) (s : Names) (name : ℕ) (it : Meaning) → Fits m s → MeaningIs (AtTop N P m) it →
      Fit m (record (innermost s.scopes) { names = (name, it) ∷ (innermost s.scopes).names } ∷ outer_scopes s.scopes)
      s.kept s.things s.round
  with_name m s name it h k = record {
    around = around_with N P m s.scopes _ h.around (k, around_top N P m s.scopes h.around);
    keeps = h.keeps;
    things = h.things;
    round = h.round;
  }

  own_none : (s : Names) (first at : Place) → first ≡ at → owner_where s first at None ≡ None
  own_none s first at e =
      ap (λ (b : Bool). if b then None else owner_at s first)
      (subst (λ (p : Place). is_place first p ≡ true) e (place_itself first))

  -- in its scope

  here_at_top : (Q : Place → Type 0) (at : Place) (inner : Option Meaning) →
      ((it : Meaning) → inner ≡ Some it → MeaningIs Q it) → (the_thing inner at ≡ at → Q at) → Q (the_thing inner at)
  here_at_top Q at (Some (means_thing p)) is new = is (means_thing p) refl
  here_at_top Q at (Some (means_type t)) is new = new refl
  here_at_top Q at None is new = new refl

  module _ (m : List Mark) (s : Names) (h : Fits m s) where
    here_goes : (at : Place) (name : ℕ) (role : Role) (t : CType) (own : Option Place) → has_place keys at ≡ true →
        (the_thing (inner_meaning s name) at ≡ at → AtTop N P m at) → Goes m s (declared_here at name role t own s)
    here_goes at name role t own key new = (
      with_name m s name (means_thing first) h top,
      adds_one (made at role first t own s) (key, top_within N P m first (file_within first) top),
    )
      where
        first : Place
        first = the_thing (inner_meaning s name) at

        top : AtTop N P m first
        top = here_at_top (AtTop N P m) at (inner_meaning s name)
            (λ it e. named_is (AtTop N P m) (innermost s.scopes).names name it
            (around_top N P m s.scopes h.around) e) new

    pub enumerator_goes : (at : Place) (name : ℕ) → has_place keys at ≡ true →
        Grown (declared_here at name enumerator_role (base []) None s).declared S.declared →
        Goes m s (declared_here at name enumerator_role (base []) None s)
    enumerator_goes at name key g =
        here_goes at name enumerator_role (base []) None key
        (λ e. file_at_top N P m at (file_within at) (of_file s.declared
        (made at enumerator_role (the_thing (inner_meaning s name) at) (base []) None s) g (inr (own_none s _ at e))))

    typedef_goes : (at : Place) (name : ℕ) (t : CType) → has_place keys at ≡ true →
        Goes m s (declared_typedef at name t s)
    typedef_goes at name t key =
        (with_name m s name (means_type t) h tt, adds_one (made at typedef_role at t None s) (key, inl key))

    -- of the file

    file_or_new : (at : Place) (found : Option Place) → ((p : Place) → found ≡ Some p → N p) →
        (or_at found at ≡ at → N at) → N (or_at found at)
    file_or_new at (Some p) is new = is p refl
    file_or_new at None is new = new refl

    is_files : (at first : Place) (b : Bool) → first ≡ at →
        ((if b then function_role else object_role) ≡ function_role)
        ⊎ (owner_where s first at (if b then Some at else None) ≡ None)
    is_files at first true e = inl refl
    is_files at first false e = inr (own_none s first at e)

    -- a declaration of a thing, by whether it is `static` and whether the thing is new
    abbrev thing_by : Place → ℕ → CType → Bool → Bool → Names
    thing_by at name t is_static is_new =
        bound name (means_thing (linked name at s))
        (declaring at (if is_function t then function_role else object_role) (linked name at s) t
        (if is_function t then Some at else None)
        (static_where is_static at.0 name (thing_where is_new name at s)))

    thing_goes : (words : List Keyword) (at : Place) (name : ℕ) (t : CType) → has_place keys at ≡ true →
        Grown (declared_thing words at name t s).declared S.declared → Goes m s (declared_thing words at name t s)
    thing_goes words at name t key g =
        by (has_word keywords.Static words) (is_place first at) (place_is first at) g
      where
        first : Place
        first = linked name at s

        d : Declared
        d = made at (if is_function t then function_role else object_role) first t
            (if is_function t then Some at else None)
            s

        is : Grown (s.declared ++ d ∷ []) S.declared → N first
        is g =
            file_or_new at (or_place (thing_of at.0 s.things name) (thing_of 0 s.things name))
            (linked_is N at.0 s.things name h.things)
            (λ e. of_file s.declared d g (is_files at first (is_function t) e))

        fit : (things : List (ℕ × Place)) → N first → ThingsAre N things →
            Fit m (record (innermost s.scopes) { names = (name, means_thing first) ∷ (innermost s.scopes).names }
            ∷ outer_scopes s.scopes) s.kept things s.round
        fit things k others = record {
          around = (with_name m s name (means_thing first) h (file_at_top N P m first (file_within first) k)).around;
          keeps = h.keeps;
          things = others;
          round = h.round;
        }

        by : (b c : Bool) → (c ≡ true → first ≡ at) → Grown (thing_by at name t b c).declared S.declared →
            Goes m s (thing_by at name t b c)
        by true true same g =
            (fit ((name, at) ∷ s.things) (is g) (subst N (same refl) (is g), h.things), adds_one d (key, inr (is g)))
        by true false same g = (fit s.things (is g) h.things, adds_one d (key, inr (is g)))
        by false true same g =
            (fit ((name, at) ∷ s.things) (is g) (subst N (same refl) (is g), h.things), adds_one d (key, inr (is g)))
        by false false same g = (fit s.things (is g) h.things, adds_one d (key, inr (is g)))

    not_left : (a b : Bool) → (a || b) ≡ false → a ≡ false
    not_left true b e = e
    not_left false b e = refl

    abbrev own_of : List Keyword → Option Place
    own_of words = if has_word keywords.Static words then None else s.enclosing

    abbrev either : List Keyword → Place → ℕ → CType → Bool → Bool → Names
    either words at name t b c =
        if b then declared_typedef at name t s else if c then declared_thing words at name t s
        else declared_here at name object_role t (own_of words) s

    by_goes : (words : List Keyword) (at : Place) (name : ℕ) (t : CType) → has_place keys at ≡ true →
        Grown (declared_by words at name t s).declared S.declared → Goes m s (declared_by words at name t s)
    by_goes words at name t key g =
        by (has_word keywords.Typedef words) (is_at_file s || (is_function t || has_word keywords.Extern words)) refl g
      where
        by : (b c : Bool) → (is_at_file s || (is_function t || has_word keywords.Extern words)) ≡ c →
            Grown (either words at name t b c).declared S.declared → Goes m s (either words at name t b c)
        by true c e g = typedef_goes at name t key
        by false true e g = thing_goes words at name t key g
        by false false e g =
            here_goes at name object_role t (own_of words) key
            (λ is. inside_at_top N P m s.scopes at h.around
            (not_left (is_at_file s) (is_function t || has_word keywords.Extern words) e) (inl key))

    pub param_goes : (u : Spelling) (it : Option Named) (i : ℕ) (own : Option Place) (t : CType) → NameIn u keys it →
        ((q : Place) → P q → AtTop N P m q) → Goes m s (declared_param u it i own t s)
    param_goes u None i own t key inside = (h, adds_none)
    param_goes u (Some it) i own t key inside =
        here_goes (place u it.token) (u.key it.name) (parameter_role i) t own key (λ e. inside _ (inl key))

    pub member_goes : (u : Spelling) (it : Option Named) (n : ℕ) (t : CType) → NameIn u keys it →
        Goes m s (declared_member u it n t s)
    member_goes u None n t key = (h, adds_none)
    member_goes u (Some it) n t key =
        (record { around = h.around; keeps = h.keeps; things = h.things; round = h.round }, adds_one _ (key, inl key))

    pub unnamed_goes : (at : Place) (n : ℕ) (t : CType) → has_place keys at ≡ true → Goes m s (unnamed_member at n t s)
    unnamed_goes at n t key =
        (record { around = h.around; keeps = h.keeps; things = h.things; round = h.round }, adds_one _ (key, inl key))

    -- uses

    use_is : (found : Option Meaning) (c : Bool) → ((it : Meaning) → found ≡ Some it → MeaningIs P it) →
        UseIs P (use_by found c)
    use_is None true is = tt
    use_is None false is = tt
    use_is (Some (means_thing at)) c is = is (means_thing at) refl
    use_is (Some (means_type t)) c is = tt

    pub use_goes : (u : Spelling) (c : Bool) (token name : ℕ) → has_place keys (place u token) ≡ true →
        Goes m s (used u c token name s)
    use_goes u c token name key = (
      h,
      adds_use (record { at = place u token; use_of = use_by (meaning s (u.key name)) c }) (
        key,
        use_is (meaning s (u.key name)) c
            (λ it e. through_is P s.scopes s.round (u.key name) it (around_within N P m s.scopes file_within h.around)
            (things_within s.round h.round) e),
      ),
    )
      where
        things_within : (things : List (ℕ × Place)) → ThingsAre N things → ThingsAre P things
        things_within [] k = tt
        things_within (it ∷ things) k = (file_within it.1 k.0, things_within things k.1)

    -- tags

    tag_goes : (found : Option ℕ) (u : Spelling) (kind : TagKind) (token tag : ℕ) →
        Goes m s (found_or_new found u kind token tag s).names
    tag_goes (Some n) u kind token tag = (h, adds_none)
    tag_goes None u kind token tag = (
      record {
        around = around_with N P m s.scopes _ h.around (around_top N P m s.scopes h.around);
        keeps = h.keeps;
        things = h.things;
        round = h.round;
      },
      adds_none,
    )

    pub tag_used_goes : (u : Spelling) (alone : Bool) (kind : TagKind) (token tag : ℕ) →
        Goes m s (tag_used u alone kind token tag s).names
    tag_used_goes u alone kind token tag =
        tag_goes (if alone then tag_in (innermost s.scopes).tags kind (u.key tag)
        else tag_through s.scopes kind (u.key tag)) u kind token tag

    tag_known_goes : (tag : Option ℕ) (n : ℕ) (next : Names) → Goes m s next → Goes m s (tag_known tag n next)
    tag_known_goes None n next k = k
    tag_known_goes (Some tag) n next k = by (is_at_file next)
      where
        by : (b : Bool) → Goes m s (if b then with_key n false tag next else next)
        by true = k
        by false = k

    begun_goes : (b : Bool) (at : Place) (kind : TagKind) (tag : Option ℕ) (it : Numbered) → Goes m s it.names →
        Goes m s (begun_in b at kind tag it).names
    begun_goes true at kind tag it k = k
    begun_goes false at kind tag it k = tag_known_goes tag it.number (opened it.number it.names) k

    pub tag_begun_goes : (u : Spelling) (kind : TagKind) (token tag : ℕ) → Goes m s (tag_begun u kind token tag s).names
    tag_begun_goes u kind token tag =
        begun_goes (has_body (body_of (tag_used u true kind token tag s).names.aggregates
        (tag_used u true kind token tag s).number)) (place u token) kind (Some (u.key tag))
        (tag_used u true kind token tag s) (tag_used_goes u true kind token tag)

    pub untagged_goes : (at : Place) (kind : TagKind) → Goes m s (untagged_begun at kind s).names
    untagged_goes at kind =
        begun_goes (has_body (body_of (untagged at kind s).names.aggregates (untagged at kind s).number)) at kind None
        (untagged at kind s) (h, adds_none)

    known_goes : (words : List Keyword) (name : ℕ) (untagged : Option ℕ) (next : Names) → Goes m s next →
        Goes m s (typedef_known words name untagged next)
    known_goes words name None next k = k
    known_goes words name (Some n) next k = by (has_word keywords.Typedef words && is_at_file next)
      where
        by : (b : Bool) → Goes m s (if b then with_key n true name next else next)
        by true = k
        by false = k

  -- a name behind a list of identifiers
  pub old_goes : (m : List Mark) (olds : Olds) → Fits m olds.names
      → (u : Spelling) (own : Option Place) (it : Option Named)
      (t : CType) → NameIn u keys it → ((q : Place) → P q → AtTop N P m q) →
      Goes m olds.names (old_declared_some u own it t olds).names
  old_goes m olds h u own None t key inside = (h, adds_none)
  old_goes m olds h u own (Some it) t key inside = by (number_of_identifier (u.key it.name) olds.list)
    where
      by : (i : Option ℕ) → Goes m olds.names (old_declared u own it t i olds).names
      by None = (h, adds_none)
      by (Some i) =
          param_goes m (with_faults (fault_where (is_typed (slice_get olds.list i))
          (place u it.token) defined_twice) olds.names) h u (Some it) i own t key inside

  pub some_goes : (m : List Mark) (s : Names) → Fits m s → (u : Spelling) (untagged : Option ℕ) (it : Option Named)
      (words : List Keyword) (t : CType) → NameIn u keys it →
      Grown (declared_some u untagged it words t s).declared S.declared →
      Goes m s (declared_some u untagged it words t s)
  some_goes m s h u untagged None words t key g = (h, adds_none)
  some_goes m s h u untagged (Some it) words t key g =
      known_goes m old h words (u.key it.name) untagged next
      (by_goes m old h words at (u.key it.name) t key
      (subst (λ (ds : List Declared). Grown ds S.declared) (known_same words (u.key it.name) untagged next) g))
    where
      at : Place
      at = place u it.token

      old : Names
      old = sized at t s

      next : Names
      next = declared_by words at (u.key it.name) t old
