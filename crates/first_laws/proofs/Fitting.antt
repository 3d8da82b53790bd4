-- What is known of names, as trees' scopes see it, against scopes of names in the grammar: where a name of a scope
-- means what has no skeleton, the grammar's scope declares it as an enumerator. What is asked of declarations holds
-- where no two are at one place.
use Rattle.std.proofs.Common.{◌≡◌, ◌⊎◌, inl, inr, ℕ, Bool, true, false, List, [], ◌∷◌, ◌++◌, Option, None, Some, refl, subst}
use Rattle.c_tree.specs.declared.lexeme.Lexeme.{Lexeme}
use Rattle.typedef_scope.specs.declared.kind.Kind.{Kind}
use Rattle.typedef_scope.specs.declared.kind.Kind.TheVariants.{Constant}
use Rattle.typedef_scope.specs.Scopes.{kind_in}
use Rattle.c_units.specs.HeldScopes.{HeldScope, HeldScopes, with_name}
use Rattle.c_units.specs.HeldScopes as held
use Rattle.c_units.specs.Scoping.{behind, where_true}
use Rattle.name_rules.specs.Spellings.{Spelling, Place}
use Rattle.name_rules.specs.Scopes.{Declared, declared_at, Meaning, means_type, means_thing, meaning_in, Names, Scope, enter, leave, outer_scopes}
use Rattle.name_rules.specs.MeaningLaws.Meanings.{Differ, ThingsAre}
use Rattle.first_laws.specs.Firsts.{HasSkeletonAt, has_skeleton}
use Rattle.first_laws.proofs.Words.{AreOf}

-- what is declared at the place has a skeleton, or the name is an enumerator
abbrev pub Stands : List Declared → Place → Option Kind → Type 0
Stands ds p kind = HasSkeletonAt ds p ⊎ (((d : Declared) × (declared_at ds p ≡ Some d)) × (kind ≡ Some Constant))

-- what a name means agrees with its kind in the grammar: it has a skeleton, or the name is a constant there
abbrev pub Agrees : List Declared → Option Meaning → Option Kind → Type 0
Agrees ds None kind = Unit {0}
Agrees ds (Some (means_type t)) kind = Unit {0}
Agrees ds (Some (means_thing p)) kind = Stands ds p kind

-- what is declared as what has a skeleton was first declared so
abbrev pub FirstsAre : List Declared → List Declared → Type 0
FirstsAre ds [] = Unit {0}
FirstsAre ds (d ∷ more) = (has_skeleton d.role ≡ true → HasSkeletonAt ds d.first) × FirstsAre ds more

-- of a scope that is open: the name that it holds, and another scope that its names fit too, where one is wanted
abbrev pub Level : Type 0
Level = Option ℕ × Option HeldScope

abbrev pub plain : Option ℕ → Level
plain q = (q, None)

-- declarations stay where they are
pub record Stay (ds es : List Declared) : Type 0 where
  pub stays : (p : Place) (d : Declared) → declared_at ds p ≡ Some d → declared_at es p ≡ Some d

module _ {ds es : List Declared} (stay : Stay ds es) where
  pub skeleton_stays : (p : Place) → HasSkeletonAt ds p → HasSkeletonAt es p
  skeleton_stays p h = (h.0, stay.stays p h.0 h.1, h.2)

  stands_stays : (p : Place) (kind : Option Kind) → Stands ds p kind → Stands es p kind
  stands_stays p kind (inl h) = inl (skeleton_stays p h)
  stands_stays p kind (inr h) = inr ((h.0.0, stay.stays p h.0.0 h.0.1), h.1)

  pub agrees_stays : (o : Option Meaning) (kind : Option Kind) → Agrees ds o kind → Agrees es o kind
  agrees_stays None kind h = tt
  agrees_stays (Some (means_type t)) kind h = tt
  agrees_stays (Some (means_thing p)) kind h = stands_stays p kind h

  pub firsts_stay : (more : List Declared) → FirstsAre ds more → FirstsAre es more
  firsts_stay [] h = tt
  firsts_stay (d ∷ more) h = (λ is. skeleton_stays d.first (h.0 is), firsts_stay more h.1)

-- `N`: names that the unit's tokens have, no two of which have one number
module _ (u : Spelling) (N : ℕ → Type 0) where
  abbrev pub ScopeAgrees : List Declared → List (ℕ × Meaning) → HeldScope → Type 0
  ScopeAgrees ds names scope = (m : ℕ) → N m → Agrees ds (meaning_in names (u.key m)) (kind_in scope.names m)

  -- the name that a scope holds, which it does not declare as an enumerator
  abbrev pub Holds : Option ℕ → HeldScope → Type 0
  Holds None scope = scope.held ≡ None
  Holds (Some m) scope = (scope.held ≡ Some m) × (N m × (kind_in scope.names m ≡ Some Constant → ⊥))

  abbrev pub OneFits : List Declared → Option ℕ → HeldScope → Scope → Type 0
  OneFits ds q scope names = Holds q scope × ScopeAgrees ds names.names scope

  abbrev pub BesideFits : List Declared → Level → Scope → Type 0
  BesideFits ds (q, None) names = Unit {0}
  BesideFits ds (q, Some scope) names = OneFits ds q scope names

  -- scopes one by one, with the names that they hold
  abbrev pub ScopesFit : List Declared → List Level → HeldScopes → List Scope → Type 0
  ScopesFit ds [] h scopes = Unit {0}
  ScopesFit ds (q ∷ qs) [] scopes = ⊥
  ScopesFit ds (q ∷ qs) (scope ∷ h) [] = ⊥
  ScopesFit ds (q ∷ qs) (scope ∷ h) (names ∷ scopes) =
      (OneFits ds q.0 scope names × BesideFits ds q names) × ScopesFit ds qs h scopes

  -- the scope that is kept, where one is looked for
  abbrev pub KeptFits : List Declared → Option HeldScope → Option Scope → Type 0
  KeptFits ds None kept = Unit {0}
  KeptFits ds (Some scope) None = ⊥
  KeptFits ds (Some scope) (Some names) = OneFits ds None scope names

  pub record Agree (q : Option ℕ) (qs : List Level) (k : Option HeldScope) (h : HeldScopes) (s : Names) : Type 0 where
    pub scopes : ScopesFit s.declared (plain q ∷ qs) h s.scopes
    pub kept : KeptFits s.declared k s.kept
    pub things : ThingsAre (HasSkeletonAt s.declared) s.things
    pub firsts : FirstsAre s.declared s.declared

  -- before these tokens
  pub record Fit (q : Option ℕ) (qs : List Level) (k : Option HeldScope) (h : HeldScopes) (s : Names)
      (ts : List Lexeme) : Type 0 where
    pub names : AreOf N ts
    pub agree : Differ s.declared → Agree q qs k h s

  -- where there are scopes, they fit
  pub record Fine (q : Option ℕ) (qs : List Level) (k : Option HeldScope) (o : Option HeldScopes) (s : Names)
      (ts : List Lexeme) : Type 0 where
    pub fits : (h : HeldScopes) → o ≡ Some h → Fit q qs k h s ts

  -- scopes as declarations grow

  module _ {ds es : List Declared} (stay : Stay ds es) where
    pub one_stays : (q : Option ℕ) (scope : HeldScope) (names : Scope) → OneFits ds q scope names
        → OneFits es q scope names
    one_stays q scope names h =
        (h.0, λ m n. agrees_stays stay (meaning_in names.names (u.key m)) (kind_in scope.names m) (h.1 m n))

    beside_stays : (q : Level) (names : Scope) → BesideFits ds q names → BesideFits es q names
    beside_stays (q, None) names h = tt
    beside_stays (q, Some scope) names h = one_stays q scope names h

    pub scopes_stay : (qs : List Level) (h : HeldScopes) (scopes : List Scope) → ScopesFit ds qs h scopes →
        ScopesFit es qs h scopes
    scopes_stay [] h scopes f = tt
    scopes_stay (q ∷ qs) [] scopes f = f
    scopes_stay (q ∷ qs) (scope ∷ h) [] f = f
    scopes_stay (q ∷ qs) (scope ∷ h) (names ∷ scopes) f =
        ((one_stays q.0 scope names f.0.0, beside_stays q names f.0.1), scopes_stay qs h scopes f.1)

    pub kept_stays : (k : Option HeldScope) (kept : Option Scope) → KeptFits ds k kept → KeptFits es k kept
    kept_stays None kept f = tt
    kept_stays (Some scope) None f = f
    kept_stays (Some scope) (Some names) f = one_stays None scope names f

  -- what is round the innermost scope
  pub outer_fit : (ds : List Declared) (p q : Level) (qs : List Level) (h : HeldScopes) (scopes : List Scope) →
      ScopesFit ds (p ∷ (q ∷ qs)) h scopes → ScopesFit ds (q ∷ qs) (held.leave h) (outer_scopes scopes)
  outer_fit ds p q qs [] scopes f = absurd f
  outer_fit ds p q qs (scope ∷ h) [] f = absurd f
  outer_fit ds p q qs (scope ∷ h) (names ∷ scopes) f = f.1

-- steps along the tokens of a tree

module _ {u : Spelling} {N : ℕ → Type 0} where
  module _ {q : Option ℕ} {qs : List Level} {k : Option HeldScope} where
    pub done : {h : HeldScopes} {s : Names} {ts : List Lexeme} → Fit u N q qs k h s ts → Fine u N q qs k (Some h) s ts
    done {h} {s} {ts} f = record {
      fits = λ other e. let same : h ≡ other = cc in subst (λ (it : HeldScopes). Fit u N q qs k it s ts) same f;
    }

    pub tested : (b : Bool) {h : HeldScopes} {s : Names} {ts : List Lexeme} → Fit u N q qs k h s ts →
        Fine u N q qs k (where_true b h) s ts
    tested true f = done f
    tested false f = record { fits = λ other e. absurd cc }

    pub eat : {h : HeldScopes} {s : Names} {t : Lexeme} {ts : List Lexeme} → Fit u N q qs k h s (t ∷ ts)
        → Fit u N q qs k h s ts
    eat f = record { names = f.names.1; agree = f.agree }

    -- one more token behind a part, or another change
    pub also : {o : Option HeldScopes} {s t : Names} {ts vs : List Lexeme} → Fine u N q qs k o s ts →
        ((h : HeldScopes) → Fit u N q qs k h s ts → Fit u N q qs k h t vs) → Fine u N q qs k o t vs
    also f g = record { fits = λ h e. g h (f.fits h e) }

    pub ends : {o : Option HeldScopes} {s : Names} {t : Lexeme} {ts : List Lexeme} → Fine u N q qs k o s (t ∷ ts) →
        Fine u N q qs k o s ts
    ends f = also f (λ h g. eat g)

    -- a test before it
    pub checked : (o : Option HeldScopes) {next : Option HeldScopes} {s : Names} {ts : List Lexeme}
        → Fine u N q qs k next s ts →
        Fine u N q qs k (behind o (λ _. next)) s ts
    checked None f = record { fits = λ h e. absurd cc }
    checked (Some before) f = f

    pub eats : (front : List Lexeme) {h : HeldScopes} {s : Names} {ts : List Lexeme}
        → Fit u N q qs k h s (front ++ ts) →
        Fit u N q qs k h s ts
    eats [] f = f
    eats (t ∷ front) f = eats front (eat f)

  pub step : {q r : Option ℕ} {qs rs : List Level} {k l : Option HeldScope} {o : Option HeldScopes}
      {next : HeldScopes → Option HeldScopes} {s t : Names} {ts vs : List Lexeme} → Fine u N q qs k o s ts →
      ((h : HeldScopes) → Fit u N q qs k h s ts → Fine u N r rs l (next h) t vs) → Fine u N r rs l (behind o next) t vs
  step {o = None} f g = record { fits = λ h e. absurd cc }
  step {o = Some before} f g = g before (f.fits before refl)

  -- two parts behind another
  pub step_two : {q r : Option ℕ} {qs rs : List Level} {k l : Option HeldScope} {o : Option HeldScopes}
      (next last : HeldScopes → Option HeldScopes) {s t : Names} {ts vs : List Lexeme} → Fine u N q qs k o s ts →
      ((h : HeldScopes) → Fit u N q qs k h s ts → Fine u N r rs l (behind (next h) last) t vs) →
      Fine u N r rs l (behind (behind o next) last) t vs
  step_two {o = None} next last f g = record { fits = λ h e. absurd cc }
  step_two {o = Some before} next last f g = g before (f.fits before refl)

  -- a scope of its own

  pub entered : {q : Option ℕ} {qs : List Level} {k : Option HeldScope} {h : HeldScopes} {s : Names}
      {ts : List Lexeme} →
      Fit u N q qs k h s ts → Fit u N None (plain q ∷ qs) k (held.enter h) (enter s) ts
  entered f = record {
    names = f.names;
    agree = λ differ. let it = f.agree differ in record {
      scopes = (((refl, λ m n. tt), tt), it.scopes);
      kept = it.kept;
      things = it.things;
      firsts = it.firsts;
    };
  }

  pub left : {p q : Option ℕ} {qs : List Level} {k : Option HeldScope} {h : HeldScopes} {s : Names} {ts : List Lexeme} →
      Fit u N p (plain q ∷ qs) k h s ts → Fit u N q qs k (held.leave h) (leave s) ts
  left {p = p} {q = q} {qs = qs} {h = h} {s = s} f = record {
    names = f.names;
    agree = λ differ. let it = f.agree differ in record {
      scopes = outer_fit u N s.declared (plain p) (plain q) qs h s.scopes it.scopes;
      kept = it.kept;
      things = it.things;
      firsts = it.firsts;
    };
  }

  pub own : {p q : Option ℕ} {qs : List Level} {k : Option HeldScope} {o : Option HeldScopes} {t : Names}
      {vs : List Lexeme} → Fine u N p (plain q ∷ qs) k o t vs →
      Fine u N q qs k (behind o (λ inner. Some (held.leave inner))) (leave t) vs
  own f = step f (λ h g. done (left g))
