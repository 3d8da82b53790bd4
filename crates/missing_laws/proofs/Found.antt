-- What is found in a world is found in it whatever stands behind its skeletons.
use Rattle.std.proofs.Common.{◌≡◌, ℕ, Bool, true, false, List, [], ◌∷◌, ◌++◌, Option, None, Some, refl, ap, subst, ◌∙◌}
use Rattle.std.specs.Prelude.{if◌then◌else◌}
use Rattle.type_table.specs.Types.{CType, base, void, struct, pointer, function}
use Rattle.qual_types.specs.Skel.{Skel, no_skeleton, numbered}
use Rattle.name_rules.specs.Spellings.{Place}
use Rattle.name_rules.specs.Scopes.{Role, typedef_role, object_role, function_role, parameter_role, field_role, enumerator_role, Declared, declared_at, Use, means, called, missing, Known, body_of, is_place}
use Rattle.name_rules.specs.Values.{member_in, member_type, known_type, undeclared_function}
use Rattle.name_rules.specs.Values as shapes
use Rattle.name_rules.specs.Uses.{use_at, use_shape, declared_shape, some_declared_shape}
use Rattle.row_rules.specs.Starting.{Start, fresh, some_fresh, use_start, some_use_start, use_by_role}
use Rattle.row_rules.specs.Vals.{a_place, member_skel, known_skeleton, own, used, used_some, used_by_role}
use Rattle.row_rules.specs.Worlds.{World, Numbered, at, skeleton, skeleton_among}
use Rattle.missing_laws.specs.Finding.{Begins, AreFound, NameBegins, UseBegins, MembersBegin, loud}
use Rattle.missing_laws.proofs.Readings.{IsOf, Reads, Agrees, as_value, as_place}

-- lists of starts

pub front : (w : World) (xs ys : List Start) → AreFound w (xs ++ ys) → AreFound w xs
front w [] ys h = tt
front w (x ∷ xs) ys h = (h.0, front w xs ys h.1)

pub back : (w : World) (xs ys : List Start) → AreFound w (xs ++ ys) → AreFound w ys
back w [] ys h = h
back w (x ∷ xs) ys h = back w xs ys h.1

-- a skeleton of a type is none that is missing

-- the missing skeleton is that of no type, whatever its number
never : (t : CType) (n : ℕ) → no_skeleton ≡ numbered t n → ⊥
never (base ws) n h = absurd cc
never (void ws) n h = absurd cc
never (struct ws s) n h = absurd cc
never (pointer ws t) n h = absurd cc
never (function ws ps r e) n h = absurd cc

kept_where : (b : Bool) (x y z u : Skel) → (y ≡ u → z ≡ u) → (if b then x else y) ≡ u → (if b then x else z) ≡ u
kept_where true x y z u g h = h
kept_where false x y z u g h = g h

-- a skeleton of a type that is found among some is the one found with others behind them
pub kept : (xs ys : List Numbered) (p : Place) (t : CType) (n : ℕ) → skeleton_among xs p ≡ numbered t n →
    skeleton_among (xs ++ ys) p ≡ numbered t n
kept [] ys p t n h = absurd (never t n h)
kept (it ∷ xs) ys p t n h =
    kept_where (is_place it.start.at p) _ _ _ _ (λ e. kept xs ys p t n e) h

-- what may stand behind skeletons and call sites, and the function around
abbrev pub Further : Type 0
Further = List Numbered × List Place × Option Skel

module _ (w : World) where
  abbrev pub world : Further → World
  world k = record w { skeletons = w.skeletons ++ k.0; sites = w.sites ++ k.1; own = k.2 }

  pub begins : (p : Place) (t : CType) → Begins w p t → IsOf t (λ (k : Further). skeleton (world k) p)
  begins p t h = (h.0, λ k. kept w.skeletons k.0 p t h.0 h.1)

  -- members

  pub member_reads : MembersBegin w → (o : Option CType) (x : Further → Skel) (name : ℕ) → Reads o x → (t : CType) →
      member_type w.names.aggregates o (w.spelling.key name) ≡ Some t →
      IsOf (pointer [] t) (λ k. member_skel (world k) (x k) name)
  member_reads members None x name g t h = absurd cc
  member_reads members (Some (base ws)) x name g t h = absurd cc
  member_reads members (Some (void ws)) x name g t h = absurd cc
  member_reads members (Some (pointer ws u)) x name g t h = absurd cc
  member_reads members (Some (function ws ps r e)) x name g t h = absurd cc
  member_reads members (Some (struct ws n)) x name g t h =
      by (member_in (body_of w.names.aggregates n) (w.spelling.key name)) refl h
    where
      one : IsOf (struct ws n) x
      one = g (struct ws n) refl

      by : (it : Option Known) → member_in (body_of w.names.aggregates n) (w.spelling.key name) ≡ it →
          known_type it ≡ Some t → IsOf (pointer [] t) (λ k. member_skel (world k) (x k) name)
      by None e h = absurd cc
      by (Some it) e h = let same : it.type ≡ t = cc in
          subst (λ (u : CType). IsOf (pointer [] u) (λ k. member_skel (world k) (x k) name)) same
          (let two = begins it.at (pointer [] it.type) (members.known n (w.spelling.key name) it e) in
          (two.0, λ k. ap (λ s. member_skel (world k) s name) (one.1 k) ∙ (ap (known_skeleton (world k)) e ∙ two.1 k)))

  -- what is fresh, and names

  module _ (f : Option Place) where
    pub own_is : (token : ℕ) (t : CType) → AreFound w (fresh (loud w f) token t) →
        IsOf t (λ (k : Further). own (world k) token)
    own_is token t h = begins (at w token) t h.0.0

    pub own_reads : (token : ℕ) (t : CType) → AreFound w (fresh (loud w f) token t) →
        Reads (Some t) (λ (k : Further). own (world k) token)
    own_reads token t h u e = let same : t ≡ u = cc in
        subst (λ (v : CType). IsOf v (λ (k : Further). own (world k) token)) same (own_is token t h)

    pub some_own_reads : (token : ℕ) (o : Option CType) → AreFound w (some_fresh (loud w f) token o) →
        Reads o (λ (k : Further). own (world k) token)
    some_own_reads token None h t e = absurd cc
    some_own_reads token (Some u) h t e = own_reads token u h t e

    placed : (t : CType) (x : Further → Skel) → IsOf (pointer [] t) x →
        Agrees (shapes.a_place (Some t)) (λ k. a_place (x k))
    placed t x one = as_place (Some t) x (λ u e. let same : t ≡ u = cc in
        subst (λ (v : CType). IsOf (pointer [] v) x) same one)

    role_agrees : (token : ℕ) (d : Declared) (role : Role) → NameBegins w d role →
        AreFound w (use_by_role (loud w f) token d role) →
        Agrees (declared_shape role d.type) (λ (k : Further). used_by_role (world k) token d.at role)
    role_agrees token d enumerator_role is h = as_value _ _ (own_reads token (base []) h)
    role_agrees token d function_role is h = placed d.type (λ k. own (world k) token)
        (begins (at w token) (pointer [] d.type) h.0.0)
    role_agrees token d typedef_role is h =
        placed d.type (λ k. skeleton (world k) d.at) (begins d.at (pointer [] d.type) is)
    role_agrees token d object_role is h =
        placed d.type (λ k. skeleton (world k) d.at) (begins d.at (pointer [] d.type) is)
    role_agrees token d (parameter_role i) is h =
        placed d.type (λ k. skeleton (world k) d.at) (begins d.at (pointer [] d.type) is)
    role_agrees token d (field_role n i) is h =
        placed d.type (λ k. skeleton (world k) d.at) (begins d.at (pointer [] d.type) is)

    pub use_agrees : (token : ℕ) (it : Use) → use_at w.names.uses (at w token) ≡ it → UseBegins w token →
        AreFound w (use_start (loud w f) token it) →
        Agrees (use_shape w.names it) (λ (k : Further). used (world k) token it)
    use_agrees token missing e is h t none = absurd cc
    use_agrees token called e is h t there =
        placed undeclared_function (λ k. own (world k) token) (own_is token (pointer [] undeclared_function) h) t there
    use_agrees token (means p) e is h t there = by (declared_at w.names.declared p) refl h t there
      where
        by : (d : Option Declared) → declared_at w.names.declared p ≡ d →
            AreFound w (some_use_start (loud w f) token d) →
            Agrees (some_declared_shape d) (λ (k : Further). used_some (world k) token d)
        by None is_it h t e2 = absurd cc
        by (Some d) is_it h t e2 = role_agrees token d d.role (is p d e is_it) h t e2
