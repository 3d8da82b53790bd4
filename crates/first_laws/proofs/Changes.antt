-- Scopes of names on trees fit those of the grammar through each change of both.
use Rattle.std.proofs.Common.{◌≡◌, inl, inr, ℕ, nat_eq, Bool, true, false, List, [], ◌∷◌, ◌++◌, Option, None, Some, refl, sym, ◌∙◌, ap, subst}
use Rattle.std.specs.Prelude.{◌&&◌, ◌||◌, if◌then◌else◌}
use Rattle.std.proofs.lemmas.Bool.{eq-eqb, eqb-true}
use Rattle.qual_base.proofs.Tests.{ne_turned}
use Rattle.c_words.specs.declared.kinds.Keyword.{Keyword}
use Rattle.c_words.specs.declared.kinds.Keyword.TheVariants as keywords
use Rattle.c_syntax.specs.declared.parts.Identifier.{Identifier}
use Rattle.c_tree.specs.declared.lexeme.Lexeme.{Lexeme}
use Rattle.tape_ops.specs.declared.specifier.TagKind.{TagKind}
use Rattle.type_table.specs.Types.{CType}
use Rattle.typedef_scope.specs.declared.kind.Kind.{Kind}
use Rattle.typedef_scope.specs.declared.kind.Kind.TheVariants.{Value, Constant}
use Rattle.typedef_scope.specs.Scopes.{is_same, kind_in}
use Rattle.c_units.specs.HeldScopes.{HeldScope, HeldScopes, with_kind, with_name, may_declare, is_name, hold, declare, release, release_as}
use Rattle.c_units.specs.HeldScopes as held
use Rattle.name_rules.specs.Spellings.{Spelling, Place, place, Named}
use Rattle.name_rules.specs.Scopes.{Declared, declared_at, Meaning, means_type, means_thing, meaning_in, Names, enter, Role, object_role, function_role, parameter_role, field_role, enumerator_role, Scope, Tagged, body_of, bound, has_body, inner_meaning, innermost, is_at_file, is_place, or_place, outer_scopes, sized, thing_of, with_declared, with_key}
use Rattle.name_rules.specs.Pieces.{is_function}
use Rattle.name_rules.specs.Identifiers.{OldParameter, Olds, identified, number_of_identifier, old_declared, old_declared_some, old_faults}
use Rattle.name_rules.specs.Declaring.{Numbered, begun_body, begun_in, body_entered, declared_here, declared_member, declared_param, declared_some, declared_thing, declared_typedef, declaring, found_or_new, has_word, keep, linked, or_at, owner_where, scope_kept, static_where, tag_known, the_thing, thing_where, type_named, typedef_known, unnamed_member, untagged, used}
use Rattle.type_rules.specs.Naming.{identifiers_named, typed_by}
use Rattle.name_rules.specs.MeaningLaws.Meanings.{Differ}
use Rattle.name_rules.proofs.MeaningLaws.Lists.{at_more, at_new, differ_before, last_is_new, linked_is, things_map}
use Rattle.first_laws.specs.Firsts.{HasSkeletonAt, has_skeleton}
use Rattle.first_laws.proofs.Words.{AreOf, kind_own, kind_other, no_constant}
use Rattle.first_laws.proofs.Growing.{Grew, Grown, one_name, same_grew}
use Rattle.first_laws.proofs.Fitting.{Level, plain, Agree, Agrees, Fine, FirstsAre, Fit, Holds, KeptFits, OneFits, ScopeAgrees, ScopesFit, Stands, Stay, agrees_stays, done, firsts_stay, kept_stays, outer_fit, scopes_stay, skeleton_stays}

new_stays : (ds : List Declared) (d : Declared) → Stay ds (ds ++ d ∷ [])
new_stays ds d = record { stays = λ p it e. at_more ds (d ∷ []) p it e }

firsts_more : (es more : List Declared) (d : Declared) → FirstsAre es more →
    (has_skeleton d.role ≡ true → HasSkeletonAt es d.first) → FirstsAre es (more ++ d ∷ [])
firsts_more es [] d h g = (g, tt)
firsts_more es (x ∷ more) d h g = (h.0, firsts_more es more d h.1 g)

-- the last declaration is found, where it has a place of its own
last_found : (ds : List Declared) (d : Declared) → Differ (ds ++ d ∷ []) → declared_at (ds ++ d ∷ []) d.at ≡ Some d
last_found ds d differ = at_new ds d (last_is_new ds d differ)

-- the name that a declarator holds, where it has one
abbrev pub holding : Option Named → Option ℕ → Option ℕ
holding None q = q
holding (Some it) q = Some it.name

-- a held name is let go, or held on
abbrev pub held_behind : Bool → Option ℕ → Option ℕ
held_behind true q = None
held_behind false q = q

abbrev pub scopes_behind : Bool → Kind → HeldScopes → HeldScopes
scopes_behind true kind h = release kind h
scopes_behind false kind h = h

-- a declaration of a name in its scope
abbrev here_d : Names → Place → ℕ → Role → CType → Option Place → Declared
here_d s at name role t own = record {
  at = at;
  role = role;
  first = the_thing (inner_meaning s name) at;
  type = t;
  owner = owner_where s (the_thing (inner_meaning s name) at) at own;
}

-- before an object or function of the file is declared
abbrev with_thing : List Keyword → Place → ℕ → Names → Names
with_thing words at name s =
    static_where (has_word keywords.Static words) at.0 name (thing_where (is_place (linked name at s) at) name at s)

module _ (u : Spelling) (N : ℕ → Type 0) (keys : (m n : ℕ) → N m → N n → u.key m ≡ u.key n → m ≡ n) where
  abbrev A : Option ℕ → List Level → Option HeldScope → HeldScopes → Names → Type 0
  A q qs k h s = Agree u N q qs k h s

  abbrev F : Option ℕ → List Level → Option HeldScope → HeldScopes → Names → List Lexeme → Type 0
  F q qs k h s ts = Fit u N q qs k h s ts

  abbrev S : List Declared → List Level → HeldScopes → List Scope → Type 0
  S ds qs h scopes = ScopesFit u N ds qs h scopes

  -- what says nothing of declarations and scopes

  module _ {q : Option ℕ} {qs : List Level} {k : Option HeldScope} {h : HeldScopes} {s : Names} {ts : List Lexeme} where
    pub alike : {t : Names} → t.declared ≡ s.declared → t.scopes ≡ s.scopes → t.kept ≡ s.kept → t.things ≡ s.things →
        F q qs k h s ts → F q qs k h t ts
    alike {t} d sc ke th f = record {
      names = f.names;
      agree = λ differ. let it = f.agree (subst Differ d differ) in record {
        scopes = rw d rw sc it.scopes;
        kept = rw d rw ke it.kept;
        things = rw d rw th it.things;
        firsts = rw d it.firsts;
      };
    }

    pub used_fits : (c : Bool) (token name : ℕ) → F q qs k h s ts → F q qs k h (used u c token name s) ts
    used_fits c token name f = alike refl refl refl refl f

    pub type_fits : (at : Place) (t : CType) → F q qs k h s ts → F q qs k h (type_named at t s) ts
    type_fits at t f = alike refl refl refl refl f

    pub typed_by_fits : (token : ℕ) (o : Option CType) → F q qs k h s ts → F q qs k h (typed_by u token o s).names ts
    typed_by_fits token None f = alike refl refl refl refl f
    typed_by_fits token (Some t) f = f

    pub sized_fits : (at : Place) (t : CType) → F q qs k h s ts → F q qs k h (sized at t s) ts
    sized_fits at t f = alike refl refl refl refl f

    pub untagged_fits : (at : Place) (kind : TagKind) → F q qs k h s ts → F q qs k h (untagged at kind s).names ts
    untagged_fits at kind f = alike refl refl refl refl f

    key_fits : (b by_typedef : Bool) (n name : ℕ) → F q qs k h s ts →
        F q qs k h (if b then with_key n by_typedef name s else s) ts
    key_fits true by_typedef n name f = alike refl refl refl refl f
    key_fits false by_typedef n name f = f

    pub known_fits : (words : List Keyword) (name : ℕ) (untagged : Option ℕ) → F q qs k h s ts →
        F q qs k h (typedef_known words name untagged s) ts
    known_fits words name None f = f
    known_fits words name (Some n) f = key_fits (has_word keywords.Typedef words && is_at_file s) true n name f

    tag_known_fits : (tag : Option ℕ) (n : ℕ) → F q qs k h s ts → F q qs k h (tag_known tag n s) ts
    tag_known_fits None n f = f
    tag_known_fits (Some tag) n f = key_fits (is_at_file s) false n tag f

  module _ {q : Option ℕ} {qs : List Level} {k : Option HeldScope} {h : HeldScopes} {ts : List Lexeme} where
    begun_fits : (b : Bool) (at : Place) (kind : TagKind) (tag : Option ℕ) (it : Numbered) → F q qs k h it.names ts →
        F q qs k h (begun_in b at kind tag it).names ts
    begun_fits true at kind tag it f = alike refl refl refl refl f
    begun_fits false at kind tag it f = tag_known_fits tag it.number (alike refl refl refl refl f)

    pub body_fits : (at : Place) (kind : TagKind) (tag : Option ℕ) (it : Numbered) → F q qs k h it.names ts →
        F q qs k h (begun_body at kind tag it).names ts
    body_fits at kind tag it f = begun_fits (has_body (body_of it.names.aggregates it.number)) at kind tag it f

  module _ {q : Option ℕ} {qs : List Level} {k : Option HeldScope} {h : HeldScopes} {ts : List Lexeme} where
    -- identifiers of a list, and those of them that are not declared, are no declarations

    pub identifiers_fit : (names : List Identifier) (it : Olds) → F q qs k h it.names ts →
        F q qs k h (identifiers_named u names it).names ts
    identifiers_fit [] it f = f
    identifiers_fit (name ∷ names) it f =
        identifiers_fit names (identified u name.token name.name it) (alike refl refl refl refl f)

    pub old_faults_fit : (list : List OldParameter) (s : Names) → F q qs k h s ts → F q qs k h (old_faults u list s) ts
    old_faults_fit [] s f = f
    old_faults_fit (it ∷ others) s f = old_faults_fit others _ (alike refl refl refl refl f)

  -- tags of the innermost scope are no names
  tagged_fit : (ds : List Declared) (q : Option ℕ) (qs : List Level) (h : HeldScopes) (scopes : List Scope)
      (tags : List Tagged) → S ds (plain q ∷ qs) h scopes →
      S ds (plain q ∷ qs) h (record (innermost scopes) { tags = tags } ∷ outer_scopes scopes)
  tagged_fit ds q qs [] scopes tags f = absurd f
  tagged_fit ds q qs (scope ∷ h) [] tags f = absurd f
  tagged_fit ds q qs (scope ∷ h) (names ∷ scopes) tags f = f

  pub found_fits : {q : Option ℕ} {qs : List Level} {k : Option HeldScope} {h : HeldScopes} {s : Names}
      {ts : List Lexeme} (found : Option ℕ) (kind : TagKind) (token tag : ℕ) → F q qs k h s ts →
      F q qs k h (found_or_new found u kind token tag s).names ts
  found_fits (Some n) kind token tag f = f
  found_fits {q} {qs} {k} {h} {s} None kind token tag f = record {
    names = f.names;
    agree = λ differ. let it = f.agree differ in record {
      scopes = tagged_fit s.declared q qs h s.scopes _ it.scopes;
      kept = it.kept;
      things = it.things;
      firsts = it.firsts;
    };
  }

  -- a declaration that binds no name
  alone : (q : Option ℕ) (qs : List Level) (k : Option HeldScope) (h : HeldScopes) (s : Names) (d : Declared) →
      (has_skeleton d.role ≡ true → HasSkeletonAt (s.declared ++ d ∷ []) d.first) → A q qs k h s →
      A q qs k h (with_declared d s)
  alone q qs k h s d g it =
      let stay = new_stays s.declared d in record {
        scopes = scopes_stay u N stay (plain q ∷ qs) h s.scopes it.scopes;
        kept = kept_stays u N stay k s.kept it.kept;
        things =
            things_map (HasSkeletonAt s.declared) (HasSkeletonAt (s.declared ++ d ∷ [])) (λ p. skeleton_stays stay p)
            s.things it.things;
        firsts = firsts_more (s.declared ++ d ∷ []) s.declared d (firsts_stay stay s.declared it.firsts) g;
      }

  -- a name that is bound, as the grammar's scope declares it
  bound_agrees : (ds : List Declared) (names : List (ℕ × Meaning)) (scope : HeldScope) (m : ℕ) (kind : Kind)
      (it : Meaning) →
      N m → ScopeAgrees u N ds names scope → Agrees ds (Some it) (kind_in (with_name scope m kind).names m) →
      ScopeAgrees u N ds ((u.key m, it) ∷ names) (with_name scope m kind)
  bound_agrees ds names scope m kind it own h g n other =
      by (nat_eq (u.key m) (u.key n)) refl
    where
      apart : (c : Bool) → nat_eq m n ≡ c → nat_eq (u.key m) (u.key n) ≡ false → nat_eq m n ≡ false
      apart false e not_same = e
      apart true e not_same =
          let one : u.key m ≡ u.key n = ap u.key (eqb-true m n e) in
          let same : nat_eq (u.key m) (u.key n) ≡ true = eq-eqb (u.key m) (u.key n) one in absurd cc

      by : (b : Bool) → nat_eq (u.key m) (u.key n) ≡ b →
          Agrees ds (if b then Some it else meaning_in names (u.key n)) (kind_in (with_name scope m kind).names n)
      by true e =
          let same : m ≡ n = keys m n own other (eqb-true (u.key m) (u.key n) e) in
          subst (λ (i : ℕ). Agrees ds (Some it) (kind_in (with_name scope m kind).names i)) same g
      by false e =
          subst (λ (o : Option Kind). Agrees ds (meaning_in names (u.key n)) o)
          (sym (kind_other scope m kind n (apart (nat_eq m n) refl e))) (h n other)

  bound_scopes : (ds : List Declared) (p q : Option ℕ) (qs : List Level) (h : HeldScopes) (scopes : List Scope) (m : ℕ)
      (kind : Kind) (it : Meaning) (scope : HeldScope) → scope.names ≡ (with_name (held.innermost h) m kind).names →
      Holds u N q scope → N m → Agrees ds (Some it) (kind_in (with_name (held.innermost h) m kind).names m) →
      S ds (plain p ∷ qs) h scopes →
      S ds (plain q ∷ qs) (scope ∷ held.leave h)
      (record (innermost scopes) { names = (u.key m, it) ∷ (innermost scopes).names } ∷ outer_scopes scopes)
  bound_scopes ds p q qs [] scopes m kind it scope e holds own g f = absurd f
  bound_scopes ds p q qs (old ∷ h) [] m kind it scope e holds own g f = absurd f
  bound_scopes ds p q qs (old ∷ h) (names ∷ scopes) m kind it scope e holds own g f = (
    (
      (
        holds,
        λ n other. subst (λ (ks : List (ℕ × Kind)). Agrees ds (meaning_in ((u.key m, it) ∷ names.names) (u.key n))
            (kind_in ks n)) (sym e) (bound_agrees ds names.names old m kind it own f.0.0.1 g n other),
      ),
      tt,
    ),
    f.1,
  )

  bind : (p q : Option ℕ) (qs : List Level) (k : Option HeldScope) (h : HeldScopes) (s : Names) (m : ℕ) (kind : Kind)
      (it : Meaning) (scope : HeldScope) → scope.names ≡ (with_name (held.innermost h) m kind).names
      → Holds u N q scope →
      N m → Agrees s.declared (Some it) (kind_in (with_name (held.innermost h) m kind).names m) → A p qs k h s →
      A q qs k (scope ∷ held.leave h) (bound (u.key m) it s)
  bind p q qs k h s m kind it scope e holds own g f = record {
    scopes = bound_scopes s.declared p q qs h s.scopes m kind it scope e holds own g f.scopes;
    kept = f.kept;
    things = f.things;
    firsts = f.firsts;
  }

  -- a name that is bound while the grammar's scope still holds it

  held_scopes : (ds : List Declared) (q : Option ℕ) (qs : List Level) (h : HeldScopes) (scopes : List Scope) (m : ℕ)
      (it : Meaning) → ((k : Option Kind) → Agrees ds (Some it) k) → S ds (plain q ∷ qs) h scopes →
      S ds (plain q ∷ qs) h
      (record (innermost scopes) { names = (u.key m, it) ∷ (innermost scopes).names } ∷ outer_scopes scopes)
  held_scopes ds q qs [] scopes m it g f = absurd f
  held_scopes ds q qs (old ∷ h) [] m it g f = absurd f
  held_scopes ds q qs (old ∷ h) (names ∷ scopes) m it g f =
      (((f.0.0.0, λ n other. by n (nat_eq (u.key m) (u.key n)) (f.0.0.1 n other)), tt), f.1)
    where
      by : (n : ℕ) (b : Bool) → Agrees ds (meaning_in names.names (u.key n)) (kind_in old.names n) →
          Agrees ds (if b then Some it else meaning_in names.names (u.key n)) (kind_in old.names n)
      by n true h = g (kind_in old.names n)
      by n false h = h

  bind_held : (q : Option ℕ) (qs : List Level) (k : Option HeldScope) (h : HeldScopes) (s : Names) (m : ℕ)
      (it : Meaning) →
      ((kind : Option Kind) → Agrees s.declared (Some it) kind) → A q qs k h s → A q qs k h (bound (u.key m) it s)
  bind_held q qs k h s m it g f = record {
    scopes = held_scopes s.declared q qs h s.scopes m it g f.scopes;
    kept = f.kept;
    things = f.things;
    firsts = f.firsts;
  }

  -- what the innermost scope says of a name
  inner_fits : (ds : List Declared) (q : Option ℕ) (qs : List Level) (h : HeldScopes) (scopes : List Scope) →
      S ds (plain q ∷ qs) h scopes → OneFits u N ds q (held.innermost h) (innermost scopes)
  inner_fits ds q qs [] scopes f = absurd f
  inner_fits ds q qs (scope ∷ h) [] f = absurd f
  inner_fits ds q qs (scope ∷ h) (names ∷ scopes) f = f.0.0

  -- where the name is no enumerator, what it means already has a skeleton, and so has what is declared anew
  first_is : (ds : List Declared) (o : Option Meaning) (kind : Option Kind) (at : Place) → Agrees ds o kind →
      (kind ≡ Some Constant → ⊥) → HasSkeletonAt ds at → HasSkeletonAt ds (the_thing o at)
  first_is ds None kind at h g here = here
  first_is ds (Some (means_type t)) kind at h g here = here
  first_is ds (Some (means_thing p)) kind at (inl h) g here = h
  first_is ds (Some (means_thing p)) kind at (inr h) g here = absurd (g h.1)

  -- where the name is an enumerator, what it means already may be one
  first_stands : (ds : List Declared) (o : Option Meaning) (kind : Option Kind) (at : Place) (d : Declared) →
      Agrees ds o kind → declared_at ds at ≡ Some d → Stands ds (the_thing o at) (Some Constant)
  first_stands ds None kind at d h here = inr ((d, here), refl)
  first_stands ds (Some (means_type t)) kind at d h here = inr ((d, here), refl)
  first_stands ds (Some (means_thing p)) kind at d (inl h) here = inl h
  first_stands ds (Some (means_thing p)) kind at d (inr h) here = inr (h.0, refl)

  -- declarations of names that the innermost scope holds

  release_is : (kind : Kind) (h : HeldScopes) (o : Option ℕ) → (held.innermost h).held ≡ o
      → release kind h ≡ release_as o kind h
  release_is kind h o e = ap (λ (name : Option ℕ). release_as name kind h) e

  module _ {qs : List Level} {k : Option HeldScope} {h : HeldScopes} {s : Names} {ts : List Lexeme} where
    none_released : (kind : Kind) → F None qs k h s ts → F None qs k (release kind h) s ts
    none_released kind f = record {
      names = f.names;
      agree = λ differ. let it = f.agree differ in
          subst (λ (now : HeldScopes). A None qs k now s)
          (sym (release_is kind h None (inner_fits s.declared None qs h s.scopes it.scopes).0)) it;
    }

    -- a declaration that is put behind all others, and the held name bound
    released : (lets : Bool) (m : ℕ) (kind : Kind) (d : Declared) (it : Meaning) →
        (Differ (s.declared ++ d ∷ []) → A (Some m) qs k h s →
        (has_skeleton d.role ≡ true → HasSkeletonAt (s.declared ++ d ∷ []) d.first)
        × ((kind : Option Kind) → Agrees (s.declared ++ d ∷ []) (Some it) kind)) →
        F (Some m) qs k h s ts →
        F (held_behind lets (Some m)) qs k (scopes_behind lets kind h) (bound (u.key m) it (with_declared d s)) ts
    released true m kind d it g f = record {
      names = f.names;
      agree = λ differ.
          let old = f.agree (differ_before s.declared (d ∷ []) differ) in
          let holds = (inner_fits s.declared (Some m) qs h s.scopes old.scopes).0 in
          let facts = g differ old in
          subst (λ (now : HeldScopes). A None qs k now (bound (u.key m) it (with_declared d s)))
          (sym (release_is kind h (Some m) holds.0))
          (bind (Some m) None qs k h (with_declared d s) m kind it
          (record (with_name (held.innermost h) m kind) { held = None }) refl refl holds.1.0
          (facts.1 (kind_in (with_name (held.innermost h) m kind).names m)) (alone (Some m) qs k h s d facts.0 old));
    }
    released false m kind d it g f = record {
      names = f.names;
      agree = λ differ.
          let old = f.agree (differ_before s.declared (d ∷ []) differ) in
          let facts = g differ old in
          bind_held (Some m) qs k h (with_declared d s) m it facts.1 (alone (Some m) qs k h s d facts.0 old);
    }

    pub typedef_fits : (lets : Bool) (m : ℕ) (kind : Kind) (at : Place) (t : CType) → F (Some m) qs k h s ts →
        F (held_behind lets (Some m)) qs k (scopes_behind lets kind h) (declared_typedef at (u.key m) t s) ts
    typedef_fits lets m kind at t f =
        released lets m kind _ (means_type t) (λ differ old. (λ is. absurd cc, λ kind. tt)) f

    -- an object or parameter
    pub object_fits : (lets : Bool) (m : ℕ) (kind : Kind) (at : Place) (role : Role) (t : CType) (own : Option Place) →
        has_skeleton role ≡ true → F (Some m) qs k h s ts →
        F (held_behind lets (Some m)) qs k (scopes_behind lets kind h) (declared_here at (u.key m) role t own s) ts
    object_fits lets m kind at role t own is f =
        released lets m kind (here_d s at (u.key m) role t own) (means_thing (the_thing (inner_meaning s (u.key m)) at))
        (λ differ old. let first = first_there differ old in (λ have. first, λ kind. inl first)) f
      where
        first_there : Differ (s.declared ++ here_d s at (u.key m) role t own ∷ []) → A (Some m) qs k h s →
            HasSkeletonAt (s.declared ++ here_d s at (u.key m) role t own ∷ [])
            (the_thing (inner_meaning s (u.key m)) at)
        first_there differ old =
            let d = here_d s at (u.key m) role t own in
            let one = inner_fits s.declared (Some m) qs h s.scopes old.scopes in
            first_is (s.declared ++ d ∷ []) (inner_meaning s (u.key m)) (kind_in (held.innermost h).names m) at
            (agrees_stays (new_stays s.declared d) (inner_meaning s (u.key m)) (kind_in (held.innermost h).names m)
            (one.1 m one.0.1.0)) one.0.1.1 (d, last_found s.declared d differ, is)

    -- an object or function of the file
    pub thing_fits : (lets : Bool) (m : ℕ) (kind : Kind) (words : List Keyword) (at : Place) (t : CType) →
        F (Some m) qs k h s ts →
        F (held_behind lets (Some m)) qs k (scopes_behind lets kind h) (declared_thing words at (u.key m) t s) ts
    thing_fits lets m kind words at t f =
        by (has_word keywords.Static words) (is_place (linked (u.key m) at s) at)
        (owner_where (with_thing words at (u.key m) s) (linked (u.key m) at s) at
        (if is_function t then Some at else None))
      where
        role_has : (c : Bool) → has_skeleton (if c then function_role else object_role) ≡ true
        role_has true = refl
        role_has false = refl

        as_d : Option Place → Declared
        as_d owner = record {
          at = at;
          role = if is_function t then function_role else object_role;
          first = linked (u.key m) at s;
          type = t;
          owner = owner;
        }

        or_here : (ds : List Declared) (o : Option Place) → ((p : Place) → o ≡ Some p → HasSkeletonAt ds p) →
            HasSkeletonAt ds at → HasSkeletonAt ds (or_at o at)
        or_here ds None g here = here
        or_here ds (Some p) g here = g p refl

        here : (owner : Option Place) → Differ (s.declared ++ as_d owner ∷ [])
            → HasSkeletonAt (s.declared ++ as_d owner ∷ []) at
        here owner differ = (as_d owner, last_found s.declared (as_d owner) differ, role_has (is_function t))

        linked_has : (owner : Option Place) → Differ (s.declared ++ as_d owner ∷ []) → A (Some m) qs k h s →
            HasSkeletonAt (s.declared ++ as_d owner ∷ []) (linked (u.key m) at s)
        linked_has owner differ old =
            or_here (s.declared ++ as_d owner ∷ [])
            (or_place (thing_of at.0 s.things (u.key m)) (thing_of 0 s.things (u.key m)))
            (λ p e. skeleton_stays (new_stays s.declared (as_d owner)) p
            (linked_is (HasSkeletonAt s.declared) at.0 s.things (u.key m) old.things p e)) (here owner differ)

        base : (owner : Option Place) → F (held_behind lets (Some m)) qs k (scopes_behind lets kind h)
            (bound (u.key m) (means_thing (linked (u.key m) at s)) (with_declared (as_d owner) s)) ts
        base owner =
            released lets m kind (as_d owner) (means_thing (linked (u.key m) at s))
            (λ differ old. let first = linked_has owner differ old in (λ have. first, λ kind. inl first)) f

        by : (b c : Bool) (owner : Option Place) → F (held_behind lets (Some m)) qs k (scopes_behind lets kind h)
            (bound (u.key m) (means_thing (linked (u.key m) at s)) (with_declared (as_d owner)
            (static_where b at.0 (u.key m) (thing_where c (u.key m) at s)))) ts
        by false false owner = base owner
        by true false owner = record {
          names = f.names;
          agree = λ differ. let it = (base owner).agree differ in record {
            scopes = it.scopes;
            kept = it.kept;
            things = it.things;
            firsts = it.firsts;
          };
        }
        by false true owner = record {
          names = f.names;
          agree = λ differ. let it = (base owner).agree differ in record {
            scopes = it.scopes;
            kept = it.kept;
            things = (here owner differ, it.things);
            firsts = it.firsts;
          };
        }
        by true true owner = record {
          names = f.names;
          agree = λ differ. let it = (base owner).agree differ in record {
            scopes = it.scopes;
            kept = it.kept;
            things = (here owner differ, it.things);
            firsts = it.firsts;
          };
        }

  -- a held name that is let go where nothing is declared, behind parts that the names did not go through

  more_kinds : (ds : List Declared) (o : Option Meaning) (old new : Option Kind) →
      ((kind : Kind) → old ≡ Some kind → new ≡ Some kind) → Agrees ds o old → Agrees ds o new
  more_kinds ds None old new g h = tt
  more_kinds ds (Some (means_type t)) old new g h = tt
  more_kinds ds (Some (means_thing p)) old new g (inl h) = inl h
  more_kinds ds (Some (means_thing p)) old new g (inr h) = inr (h.0, g Constant h.1)

  grown_agrees : (ds : List Declared) (names : List (ℕ × Meaning)) {kept : Bool} (scope now : HeldScope)
      → Grown kept scope now →
      ScopeAgrees u N ds names scope → ScopeAgrees u N ds names now
  grown_agrees ds names scope now g f m n =
      more_kinds ds (meaning_in names (u.key m)) (kind_in scope.names m) (kind_in now.names m) (g.kinds m) (f m n)

  held_is : (q : Option ℕ) (scope : HeldScope) → Holds u N q scope → scope.held ≡ q
  held_is None scope g = g
  held_is (Some m) scope g = g.0

  one_let_go : (ds : List Declared) (q : Option ℕ) (qs : List Level) (kind : Kind) (outer : HeldScopes) (names : Scope)
      (scopes : List Scope) (scope now : HeldScope) → Grown true scope now → OneFits u N ds q scope names
      → S ds qs outer scopes →
      S ds (plain None ∷ qs) (release kind (now ∷ outer)) (names ∷ scopes)
  one_let_go ds q qs kind outer names scopes scope now g one f =
      subst (λ (t : HeldScopes). S ds (plain None ∷ qs) t (names ∷ scopes))
      (sym (release_is kind (now ∷ outer) q held_now)) (by q held_now)
    where
      held_now : now.held ≡ q
      held_now = g.holds refl ∙ held_is q scope one.0

      by : (o : Option ℕ) → now.held ≡ o → S ds (plain None ∷ qs) (release_as o kind (now ∷ outer)) (names ∷ scopes)
      by None e = (((e, grown_agrees ds names.names scope now g one.1), tt), f)
      by (Some m) e = (
        (
          (
            refl,
            grown_agrees ds names.names now (with_name now m kind) (one_name now m kind)
                (grown_agrees ds names.names scope now g one.1),
          ),
          tt,
        ),
        f,
      )

  scopes_let_go : (ds : List Declared) (q : Option ℕ) (qs : List Level) (kind : Kind) (h t : HeldScopes)
      (scopes : List Scope) → Grew true h t → S ds (plain q ∷ qs) h scopes
      → S ds (plain None ∷ qs) (release kind t) scopes
  scopes_let_go ds q qs kind [] t scopes g f = absurd f
  scopes_let_go ds q qs kind (scope ∷ h) t [] g f = absurd f
  scopes_let_go ds q qs kind (scope ∷ h) t (names ∷ scopes) g f =
      let it = g scope h refl in
      subst (λ (s : HeldScopes). S ds (plain None ∷ qs) (release kind s) (names ∷ scopes)) (sym it.are)
      (one_let_go ds q qs kind h names scopes scope it.now it.grown f.0.0 f.1)

  pub let_go : {q : Option ℕ} {qs : List Level} {k : Option HeldScope} {h t : HeldScopes} {s : Names}
      {ts vs : List Lexeme}
      (kind : Kind) → Grew true h t → AreOf N vs → F q qs k h s ts → F None qs k (release kind t) s vs
  let_go {q} {qs} {k} {h} {t} {s} kind g past f = record {
    names = past;
    agree = λ differ. let it = f.agree differ in record {
      scopes = scopes_let_go s.declared q qs kind h t s.scopes g it.scopes;
      kept = it.kept;
      things = it.things;
      firsts = it.firsts;
    };
  }

  module _ {qs : List Level} {k : Option HeldScope} {h : HeldScopes} {s : Names} {ts : List Lexeme} where
    -- nothing stands between
    pub dropped : {q : Option ℕ} (kind : Kind) → F q qs k h s ts → F None qs k (release kind h) s ts
    dropped kind f = let_go kind (same_grew h) f.names f

    unnamed : {q : Option ℕ} (lets : Bool) (kind : Kind) → F q qs k h s ts
        → F (held_behind lets q) qs k (scopes_behind lets kind h) s ts
    unnamed true kind f = dropped kind f
    unnamed false kind f = f

  module _ {qs : List Level} {k : Option HeldScope} {h : HeldScopes} {ts : List Lexeme} where
    -- a name that is declared behind a list of identifiers
    pub old_fits : (lets : Bool) (kind : Kind) (own : Option Place) (it : Option Named) (t : CType) (olds : Olds) →
        F (holding it None) qs k h olds.names ts →
        F (held_behind lets (holding it None)) qs k (scopes_behind lets kind h)
        (old_declared_some u own it t olds).names ts
    old_fits lets kind own None t olds f = unnamed lets kind f
    old_fits lets kind own (Some it) t olds f = by (number_of_identifier (u.key it.name) olds.list)
      where
        by : (o : Option ℕ) →
            F (held_behind lets (Some it.name)) qs k (scopes_behind lets kind h)
            (old_declared u own it t o olds).names ts
        by None = unnamed lets kind (alike refl refl refl refl f)
        by (Some i) =
            object_fits lets it.name kind (place u it.token) (parameter_role i) t own refl
            (sized_fits (place u it.token) t (alike refl refl refl refl f))

  module _ {qs : List Level} {k : Option HeldScope} {h : HeldScopes} {s : Names} {ts : List Lexeme} where
    pub param_fits : (it : Option Named) (i : ℕ) (own : Option Place) (t : CType) → F (holding it None) qs k h s ts →
        F None qs k (release Value h) (declared_param u it i own t s) ts
    param_fits None i own t f = none_released Value f
    param_fits (Some it) i own t f =
        object_fits true it.name Value (place u it.token) (parameter_role i) t own refl
        (sized_fits (place u it.token) t f)

    pub some_fits : (lets : Bool) (kind : Kind) (untagged : Option ℕ) (it : Option Named)
        (words : List Keyword) (t : CType) →
        F (holding it None) qs k h s ts →
        F (held_behind lets (holding it None)) qs k (scopes_behind lets kind h)
        (declared_some u untagged it words t s) ts
    some_fits lets kind untagged None words t f = unnamed lets kind f
    some_fits lets kind untagged (Some it) words t f =
        known_fits words (u.key it.name) untagged
        (by (has_word keywords.Typedef words) (is_at_file old || (is_function t || has_word keywords.Extern words)))
      where
        old : Names
        old = sized (place u it.token) t s

        before : F (Some it.name) qs k h old ts
        before = sized_fits (place u it.token) t f

        by : (b c : Bool) → F (held_behind lets (Some it.name)) qs k (scopes_behind lets kind h)
            (if b then declared_typedef (place u it.token) (u.key it.name) t old
            else if c then declared_thing words (place u it.token) (u.key it.name) t old
            else declared_here (place u it.token) (u.key it.name) object_role t
            (if has_word keywords.Static words then None else old.enclosing) old) ts
        by true c = typedef_fits lets it.name kind (place u it.token) t before
        by false true = thing_fits lets it.name kind words (place u it.token) t before
        by false false = object_fits lets it.name kind (place u it.token) object_role t _ refl before

  module _ {q : Option ℕ} {qs : List Level} {k : Option HeldScope} {h : HeldScopes} {s : Names} {ts : List Lexeme} where
    -- a member, which no scope declares
    field_fits : (at : Place) (n i : ℕ) (t : CType) (own : Option Place) → F q qs k h s ts →
        F q qs k h (declaring at (field_role n i) at t own s) ts
    field_fits at n i t own f = record {
      names = f.names;
      agree = λ differ.
          let d : Declared = record {
            at = at;
            role = field_role n i;
            first = at;
            type = t;
            owner = owner_where s at at own;
          } in
          alone q qs k h s d (λ is. (d, last_found s.declared d differ, refl))
          (f.agree (differ_before s.declared (d ∷ []) differ));
    }

    pub unnamed_fits : (at : Place) (n : ℕ) (t : CType) → F q qs k h s ts → F q qs k h (unnamed_member at n t s) ts
    unnamed_fits at n t f = alike refl refl refl refl (field_fits at n _ t None f)

    pub member_fits : (it : Option Named) (n : ℕ) (t : CType) → F q qs k h s ts
        → F q qs k h (declared_member u it n t s) ts
    member_fits None n t f = f
    member_fits (Some it) n t f =
        sized_fits (place u it.token) t (alike refl refl refl refl (field_fits (place u it.token) n _ t None f))

    -- a name that is held
    pub hold_fits : (m : ℕ) (kind : Kind) → is_same Constant kind ≡ false → N m → F q qs k h s ts →
        Fine u N (Some m) qs k (hold m kind h) s ts
    hold_fits m kind other own f = by (may_declare (held.innermost h) m kind) refl
      where
        holds_fit : (ds : List Declared) (h : HeldScopes) (scopes : List Scope) → S ds (plain q ∷ qs) h scopes →
            (kind_in (held.innermost h).names m ≡ Some Constant → ⊥) →
            S ds (plain (Some m) ∷ qs) (record (held.innermost h) { held = Some m } ∷ held.leave h) scopes
        holds_fit ds [] scopes g other = absurd g
        holds_fit ds (scope ∷ h) [] g other = absurd g
        holds_fit ds (scope ∷ h) (names ∷ scopes) g other = ((((refl, (own, other)), g.0.0.1), tt), g.1)

        by : (b : Bool) → may_declare (held.innermost h) m kind ≡ b → Fine u N (Some m) qs k
            (if b then Some (record (held.innermost h) { held = Some m } ∷ held.leave h) else None) s ts
        by false e = record { fits = λ now is. absurd cc }
        by true e = done (record {
          names = f.names;
          agree = λ differ. let it = f.agree differ in record {
            scopes = holds_fit s.declared h s.scopes it.scopes
                (no_constant (kind_in (held.innermost h).names m) kind other e);
            kept = it.kept;
            things = it.things;
            firsts = it.firsts;
          };
        })

    -- an enumerator
    pub enumerator_fits : (m : ℕ) (at : Place) (t : CType) (own : Option Place) → N m → F q qs k h s ts →
        Fine u N q qs k (declare m Constant h) (declared_here at (u.key m) enumerator_role t own s) ts
    enumerator_fits m at t own name f =
        by (is_name (held.innermost h).held m) (may_declare (held.innermost h) m Constant) refl refl
      where
        scope : HeldScope
        scope = with_name (held.innermost h) m Constant

        same_held : (o : Option Kind) → (with_kind o (held.innermost h) m Constant).held ≡ (held.innermost h).held
        same_held None = refl
        same_held (Some known) = refl

        still_holds : (p : Option ℕ) → is_name (held.innermost h).held m ≡ false → Holds u N p (held.innermost h) →
            Holds u N p scope
        still_holds None free g = same_held (kind_in (held.innermost h).names m) ∙ g
        still_holds (Some n) free g =
            let apart : nat_eq n m ≡ false = subst (λ (o : Option ℕ). is_name o m ≡ false) g.0 free in (
              same_held (kind_in (held.innermost h).names m) ∙ g.0,
              (
                g.1.0,
                λ is. g.1.1
                    (sym (kind_other (held.innermost h) m Constant n (ne_turned n m apart)) ∙ is),
              ),
            )

        by : (b c : Bool) → is_name (held.innermost h).held m ≡ b → may_declare (held.innermost h) m Constant ≡ c →
            Fine u N q qs k (if b then None else if c then Some (scope ∷ held.leave h) else None)
            (declared_here at (u.key m) enumerator_role t own s) ts
        by true c free may = record { fits = λ now is. absurd cc }
        by false false free may = record { fits = λ now is. absurd cc }
        by false true free may = done (record {
          names = f.names;
          agree = λ differ.
              let d = here_d s at (u.key m) enumerator_role t own in
              let old = f.agree (differ_before s.declared (d ∷ []) differ) in
              let one = inner_fits s.declared q qs h s.scopes old.scopes in
              let first = first_stands (s.declared ++ d ∷ []) (inner_meaning s (u.key m))
              (kind_in (held.innermost h).names m) at d
              (agrees_stays (new_stays s.declared d) (inner_meaning s (u.key m)) (kind_in (held.innermost h).names m)
              (one.1 m name)) (last_found s.declared d differ) in
              bind q q qs k h (with_declared d s) m Constant
              (means_thing (the_thing (inner_meaning s (u.key m)) at)) scope refl (still_holds q free one.0) name
              (subst (λ (o : Option Kind). Stands (s.declared ++ d ∷ []) (the_thing (inner_meaning s (u.key m)) at) o)
              (sym (kind_own (held.innermost h) m Constant may)) first) (alone q qs k h s d (λ is. absurd cc) old);
        })

  -- a function's own parameters and its body

  module _ {q : Option ℕ} {qs : List Level} {s : Names} {ts : List Lexeme} where
    pub kept_fits : {k : Option HeldScope} {h : HeldScopes} (own : Place) → F None (plain q ∷ qs) k h s ts →
        F q qs (Some (held.innermost h)) (held.leave h) (keep (Some own) s) ts
    kept_fits {k} {h} own f = record {
      names = f.names;
      agree = λ differ. let it = f.agree differ in record {
        scopes = outer_fit u N s.declared (plain None) (plain q) qs h s.scopes it.scopes;
        kept = inner_fits s.declared None (plain q ∷ qs) h s.scopes it.scopes;
        things = it.things;
        firsts = it.firsts;
      };
    }

    -- a body may be counted or not
    pub body_entered_fits : {scope : HeldScope} {h : HeldScopes} (at first : Place) (is_plain is_counted : Bool) →
        F q qs (Some scope) h s ts
        → F None (plain q ∷ qs) None (scope ∷ h) (body_entered at first is_plain is_counted s) ts
    body_entered_fits {scope} {h} at first is_plain is_counted f = counted is_counted
      where
        by : (o : Option Scope) → KeptFits u N s.declared (Some scope) o → S s.declared (plain q ∷ qs) h s.scopes →
            S s.declared (plain None ∷ (plain q ∷ qs)) (scope ∷ h) (scope_kept o s.scopes)
        by None g more = absurd g
        by (Some names) g more = ((g, tt), more)

        counted : (b : Bool) → F None (plain q ∷ qs) None (scope ∷ h) (body_entered at first is_plain b s) ts
        counted true = record {
          names = f.names;
          agree = λ differ. let it = f.agree differ in record {
            scopes = by s.kept it.kept it.scopes;
            kept = tt;
            things = it.things;
            firsts = it.firsts;
          };
        }
        counted false = record {
          names = f.names;
          agree = λ differ. let it = f.agree differ in record {
            scopes = by s.kept it.kept it.scopes;
            kept = tt;
            things = it.things;
            firsts = it.firsts;
          };
        }

  -- The scope of parameters that are declared behind a list of identifiers. In the grammar they are declared behind the
  -- whole declarator, in whose scope what else stands in it has declared enumerators by then. Among names nothing
  -- behind the list is known yet.

  grown_holds : (q : Option ℕ) (scope now : HeldScope) → Grown true scope now → Holds u N q scope → Holds u N q now
  grown_holds None scope now g h = g.holds refl ∙ h
  grown_holds (Some m) scope now g h = (g.holds refl ∙ h.0, (h.1.0, λ is. h.1.1 (sym (g.same refl m h.0) ∙ is)))

  grown_beside : (ds : List Declared) (q : Option ℕ) (qs : List Level) (scope : HeldScope) (outer t : HeldScopes)
      (scopes : List Scope) → Grew true (scope ∷ outer) t → S ds (plain q ∷ qs) (scope ∷ outer) scopes →
      S ds ((q, Some scope) ∷ qs) t scopes
  grown_beside ds q qs scope outer t [] g f = absurd f
  grown_beside ds q qs scope outer t (names ∷ scopes) g f =
      let it = g scope outer refl in
      subst (λ (now : HeldScopes). S ds ((q, Some scope) ∷ qs) now (names ∷ scopes)) (sym it.are) (
        (
          (grown_holds q scope it.now it.grown f.0.0.0, grown_agrees ds names.names scope it.now it.grown f.0.0.1),
          f.0.0,
        ),
        f.1,
      )

  as_beside : (ds : List Declared) (q : Option ℕ) (qs : List Level) (scope : HeldScope) (outer t : HeldScopes)
      (scopes : List Scope) → Grew true (scope ∷ outer) t → S ds ((q, Some scope) ∷ qs) t scopes →
      S ds (plain q ∷ qs) (scope ∷ outer) scopes
  as_beside ds q qs scope outer t scopes g f =
      let it = g scope outer refl in
      by it.now scopes (subst (λ (now : HeldScopes). S ds ((q, Some scope) ∷ qs) now scopes) it.are f)
    where
      by : (now : HeldScope) (scopes : List Scope) → S ds ((q, Some scope) ∷ qs) (now ∷ outer) scopes →
          S ds (plain q ∷ qs) (scope ∷ outer) scopes
      by now [] f = absurd f
      by now (names ∷ scopes) f = ((f.0.1, tt), f.1)

  pub beside_entered : {q : Option ℕ} {qs : List Level} {k : Option HeldScope} {s : Names} {ts vs : List Lexeme}
      (scope : HeldScope)
      (outer t : HeldScopes) → Grew true (scope ∷ outer) t → AreOf N vs → F q qs k (scope ∷ outer) s ts →
      F None ((q, Some scope) ∷ qs) k (held.enter t) (enter s) vs
  beside_entered {q} {qs} {k} {s} scope outer t g past f = record {
    names = past;
    agree = λ differ. let it = f.agree differ in record {
      scopes = (((refl, λ m n. tt), tt), grown_beside s.declared q qs scope outer t s.scopes g it.scopes);
      kept = it.kept;
      things = it.things;
      firsts = it.firsts;
    };
  }

  pub beside_kept : {q : Option ℕ} {qs : List Level} {k : Option HeldScope} {s : Names}
      {ts vs : List Lexeme} (own : Place)
      (scope : HeldScope) (outer t w : HeldScopes) → Grew true (scope ∷ outer) t → held.leave w ≡ t → AreOf N ts →
      F None ((q, Some scope) ∷ qs) k w s vs →
      F q qs (Some (held.innermost w)) (scope ∷ outer) (keep (Some own) s) ts
  beside_kept {q} {qs} {k} {s} own scope outer t w g left past f = record {
    names = past;
    agree = λ differ. let it = f.agree differ in record {
      scopes = as_beside s.declared q qs scope outer t (outer_scopes s.scopes) g
          (subst (λ (h : HeldScopes). S s.declared ((q, Some scope) ∷ qs) h (outer_scopes s.scopes)) left
          (outer_fit u N s.declared (plain None) (q, Some scope) qs w s.scopes it.scopes));
      kept = inner_fits s.declared None ((q, Some scope) ∷ qs) w s.scopes it.scopes;
      things = it.things;
      firsts = it.firsts;
    };
  }
