-- Rows that are the same whatever stands behind the skeletons of a world.
use Rattle.std.proofs.Common.{◌≡◌, ◌⊎◌, inl, inr, ℕ, zero, suc, Bool, true, false, List, [], ◌∷◌, slice_get, Option, None, Some, refl, sym, ap, subst, ◌∙◌}
use Rattle.std.specs.Prelude.{◌&&◌, ◌||◌, not, if◌then◌else◌}
use Rattle.qual_base.specs.declared.places.Span.{Span}
use Rattle.flow_graph.specs.declared.constraint.Constraint.{Constraint}
use Rattle.type_table.specs.Types.{CType, pointer}
use Rattle.qual_types.specs.declared.look.Kind.{Kind}
use Rattle.qual_types.specs.declared.look.Kind.TheVariants as kinds
use Rattle.qual_types.specs.Skel.{Skel, flat, ref, fun, Skels, no_skels, more_skels, struct_of, param_at}
use Rattle.flow_rules.specs.Lists.{equal, flow}
use Rattle.flow_rules.specs.declared.arrow.Arrow.TheVariants.{Flow}
use Rattle.name_rules.specs.Spellings.{Place}
use Rattle.name_rules.specs.Scopes.{Role, typedef_role, object_role, function_role, parameter_role, field_role, enumerator_role, Declared, declared_at, Known, Own, body_of, is_place}
use Rattle.name_rules.specs.Linking.{link_of}
use Rattle.name_rules.specs.Values.{member_in, own_of, own_number}
use Rattle.name_rules.proofs.MeaningLaws.Lists.{place_is}
use Rattle.row_rules.specs.Annotations.{has_access, annotating, parameters}
use Rattle.row_rules.specs.Forming.{Ways, ways_in, into_member, into_members, into_fields, formed_in, all_formed_in, formed}
use Rattle.row_rules.specs.Rows.{annotating_name, branched, chosen, declared_row, formed_name, into_param, name_row, next_of_struct, own_skel, param_row, some_declared_row, equal_to, tied_to_first}
use Rattle.row_rules.specs.Indexing.{indexing}
use Rattle.row_rules.specs.Starting.{is_some_function, Around, name_start, declared_start, some_declared_start}
use Rattle.row_rules.specs.Vals.{contents, is_nothing, known_skeleton, member_of, member_skel, own}
use Rattle.row_rules.specs.Worlds.{World, at, in_all, skeleton, word_span}
use Rattle.first_laws.specs.Firsts.{has_skeleton}
use Rattle.missing_laws.specs.Finding.{AreFound, Begins, FirstIsMet, LinksAreMet, MembersBegin, PlaceBegins, RoleHasSkeleton}
use Rattle.missing_laws.proofs.Found.{Further, world, begins}
use Rattle.missing_laws.proofs.Marks.{ap2, joined, annotating_is, indexing_is}

-- what is declared at a place has this place
pub declared_there : (ds : List Declared) (p : Place) (d : Declared) → declared_at ds p ≡ Some d → d.at ≡ p
declared_there [] p d e = absurd cc
declared_there (other ∷ ds) p d e = there (is_place other.at p) refl (λ h. declared_there ds p d h) e
  where
    there : (b : Bool) → is_place other.at p ≡ b → (declared_at ds p ≡ Some d → d.at ≡ p) →
        (if b then Some other else declared_at ds p) ≡ Some d → d.at ≡ p
    there true is next e = let same : other ≡ d = cc in
        subst (λ (it : Declared). it.at ≡ p) same (place_is other.at p is)
    there false is next e = next e

abbrev held : Skel → Option Skel
held s = Some (contents s)

-- a form that is not quiet, or one that is
abbrev pub around : World → Bool → Option Place → Around
around w quiet f =
    record { spelling = w.spelling; names = w.names; enclosing = f; is_quiet = quiet; access = has_access w.lattices }

module _ (w : World) (members : MembersBegin w) (k l : Further) where
  abbrev pub wk : World
  wk = world w k

  abbrev pub wl : World
  wl = world w l

  -- skeletons

  pub found_same : (p : Place) (t : CType) → Begins w p t → skeleton wk p ≡ skeleton wl p
  found_same p t h = let one = begins w p t h in one.1 k ∙ sym (one.1 l)

  met_same : (p : Place) → PlaceBegins w p → skeleton wk p ≡ skeleton wl p
  met_same p h = found_same p h.0 h.1

  pub known_same : (n : Option ℕ) (name : ℕ)
      → known_skeleton wk (member_of w n name) ≡ known_skeleton wl (member_of w n name)
  known_same None name = refl
  known_same (Some n) name = by (member_in (body_of w.names.aggregates n) (w.spelling.key name)) refl
    where
      by : (it : Option Known) → member_in (body_of w.names.aggregates n) (w.spelling.key name) ≡ it →
          known_skeleton wk it ≡ known_skeleton wl it
      by None e = refl
      by (Some it) e = found_same it.at (pointer [] it.type) (members.known n (w.spelling.key name) it e)

  pub member_same : (s : Skel) (name : ℕ) → member_skel wk s name ≡ member_skel wl s name
  member_same s name = known_same (struct_of s) name

  pub next_same : (n next : ℕ) → next_of_struct wk n next ≡ next_of_struct wl n next
  next_same n next =
      by (slice_get (own_of w.names.aggregates n) (own_number w.names.aggregates n next)) refl
    where
      by : (it : Option Own) → slice_get (own_of w.names.aggregates n) (own_number w.names.aggregates n next) ≡ it →
          own_skel wk it ≡ own_skel wl it
      by None e = refl
      by (Some it) e = ap held (found_same it.at (pointer [] it.type)
          (members.own n (own_number w.names.aggregates n next) it e))

  -- what passes inside a skeleton

  into_same : (ways : Ways) (where_ : Span) (v : ℕ) (own : List Own) →
      ((i : ℕ) (it : Own) → slice_get own i ≡ Some it → skeleton wk it.at ≡ skeleton wl it.at) →
      into_members ways wk.skeletons where_ v own ≡ into_members ways wl.skeletons where_ v own
  into_same ways where_ v [] g = refl
  into_same ways where_ v (it ∷ own) g = joined _ _ _ _
      (ap (λ s. into_member ways where_ v s) (g zero it refl)) (into_same ways where_ v own (λ i. g (suc i)))

  fields_same : (ways : Ways) (where_ : Span) (v : ℕ) (kind : Kind) →
      into_fields ways wk.skeletons w.names.aggregates where_ v kind
      ≡ into_fields ways wl.skeletons w.names.aggregates where_ v kind
  fields_same ways where_ v (kinds.Struct n) = into_same ways where_ v (own_of w.names.aggregates n)
      (λ i it e. found_same it.at (pointer [] it.type) (members.own n i it e))
  fields_same ways where_ v kinds.Base = refl
  fields_same ways where_ v kinds.Void = refl
  fields_same ways where_ v kinds.Nothing = refl

  mutual
    parts_same : (ways : Ways) (where_ : Span) (s : Skel) →
        formed_in ways wk.skeletons w.names.aggregates where_ s
        ≡ formed_in ways wl.skeletons w.names.aggregates where_ s
    parts_same ways where_ (flat v kind) = fields_same ways where_ v kind
    parts_same ways where_ (ref v s) = joined _ _ _ _ refl (parts_same ways where_ s)
    parts_same ways where_ (fun v ps r e) = joined _ _ _ _ (all_same ways where_ ps) (parts_same ways where_ r)

    all_same : (ways : Ways) (where_ : Span) (ss : Skels) →
        all_formed_in ways wk.skeletons w.names.aggregates where_ ss
        ≡ all_formed_in ways wl.skeletons w.names.aggregates where_ ss
    all_same ways where_ no_skels = refl
    all_same ways where_ (more_skels s ss) = joined _ _ _ _ (parts_same ways where_ s) (all_same ways where_ ss)

  pub formed_same : (where_ : Span) (s t : Skel) → s ≡ t → formed wk where_ s ≡ formed wl where_ t
  formed_same where_ s t e = ap (λ x. formed wk where_ x) e ∙ parts_same (ways_in w.lattices) where_ t

  -- rows of names

  annotating_same : (d : Declared) → skeleton wk d.at ≡ skeleton wl d.at → annotating_name wk d ≡ annotating_name wl d
  annotating_same d e =
      ap (λ s. annotating wk (pointer [] d.type) s) e ∙ annotating_is w k l (pointer [] d.type) (skeleton wl d.at)

  abbrev tied : Declared → Skel → Skel → List Constraint
  tied d s t =
      if is_place (equal_to w d) d.at || (is_nothing s || is_nothing t) then []
      else in_all w (word_span d.at) (equal Flow true s t)

  tied_same : (d : Declared) → skeleton wk d.at ≡ skeleton wl d.at →
      skeleton wk (equal_to w d) ≡ skeleton wl (equal_to w d) → tied_to_first wk d ≡ tied_to_first wl d
  tied_same d e is = ap2 (tied d) _ _ _ _ is e

  -- what a declaration is as
  equal_met : LinksAreMet w → (d : Declared) → PlaceBegins w d.first → PlaceBegins w d.at → PlaceBegins w (equal_to w d)
  equal_met links d first here = by (is_place d.first d.at)
    where
      linked : (link_of w.names d.at ≡ d.at) ⊎ PlaceBegins w (link_of w.names d.at)
          → PlaceBegins w (link_of w.names d.at)
      linked (inl e) = subst (λ (p : Place). PlaceBegins w p) (sym e) here
      linked (inr h) = h

      by : (b : Bool) → PlaceBegins w (if b then link_of w.names d.at else d.first)
      by true = linked (links d.at)
      by false = first

  formed_name_same : (d : Declared) → skeleton wk d.at ≡ skeleton wl d.at → formed_name wk d ≡ formed_name wl d
  formed_name_same d e = formed_same (word_span d.at) _ _ e

  name_row_same : LinksAreMet w → (d : Declared) → PlaceBegins w d.first → Begins w d.at (pointer [] d.type) →
      name_row wk d ≡ name_row wl d
  name_row_same links d met h =
      let e = found_same d.at (pointer [] d.type) h in
      joined _ _ _ _ (formed_name_same d e) (joined _ _ _ _ (annotating_same d e) (joined _ _ _ _
      (ap (λ s. indexing wk (pointer [] d.type) s) e ∙ indexing_is w k l (pointer [] d.type) (skeleton wl d.at))
      (tied_same d e (met_same (equal_to w d) (equal_met links d met (pointer [] d.type, h))))))

  declared_same : LinksAreMet w → (f : Option Place) (d : Declared) (role : Role) → d.role ≡ role →
      (has_skeleton d.role ≡ true → PlaceBegins w d.first) → AreFound w (declared_start w.names f d role) →
      declared_row wk d role ≡ declared_row wl d role
  declared_same links f d typedef_role is met h = refl
  declared_same links f d enumerator_role is met h = refl
  declared_same links f d object_role is met h = name_row_same links d (met (ap has_skeleton is)) h.0.0
  declared_same links f d function_role is met h = name_row_same links d (met (ap has_skeleton is)) h.0.0
  declared_same links f d (parameter_role i) is met h = name_row_same links d (met (ap has_skeleton is)) h.0.0
  declared_same links f d (field_role n i) is met h = name_row_same links d (met (ap has_skeleton is)) h.0.0

  pub row_same : LinksAreMet w → (q : Bool) (f : Option Place) (token : ℕ) → FirstIsMet w token →
      AreFound w (name_start (around w q f) token) →
      some_declared_row wk (declared_at w.names.declared (at w token))
      ≡ some_declared_row wl (declared_at w.names.declared (at w token))
  row_same links q f token met h = by (declared_at w.names.declared (at w token)) refl h
    where
      by : (o : Option Declared) → declared_at w.names.declared (at w token) ≡ o →
          AreFound w (some_declared_start w.names f o) → some_declared_row wk o ≡ some_declared_row wl o
      by None there h = refl
      by (Some d) there h = declared_same links f d d.role refl (met d there).0 h

  at_role : (f : Option Place) (d : Declared) (role : Role) → has_skeleton role ≡ true →
      AreFound w (declared_start w.names f d role) → skeleton wk d.at ≡ skeleton wl d.at
  at_role f d typedef_role is h = absurd cc
  at_role f d enumerator_role is h = absurd cc
  at_role f d object_role is h = found_same d.at (pointer [] d.type) h.0.0
  at_role f d function_role is h = found_same d.at (pointer [] d.type) h.0.0
  at_role f d (parameter_role i) is h = found_same d.at (pointer [] d.type) h.0.0
  at_role f d (field_role n i) is h = found_same d.at (pointer [] d.type) h.0.0

  -- what has a skeleton and is declared at a token of a declarator that has one, where its declaration has one
  pub name_same : (q : Bool) (f : Option Place) (token : ℕ) (d : Declared) →
      declared_at w.names.declared (at w token) ≡ Some d → has_skeleton d.role ≡ true →
      AreFound w (name_start (around w q f) token) → skeleton wk d.at ≡ skeleton wl d.at
  name_same q f token d there is h = at_role f d d.role is
      (subst (λ (o : Option Declared). AreFound w (some_declared_start w.names f o)) there h)

  abbrev into : Declared → Option Skel → Skel → List Constraint
  into d None t = []
  into d (Some s) t =
      if is_some_function (declared_at w.names.declared d.first) || is_nothing (contents t) then []
      else in_all w (word_span d.at) (flow Flow true s (contents t))

  into_is : (k : Further) (o : Option Skel) (d : Declared)
      → into_param (world w k) o d ≡ into d o (skeleton (world w k) d.at)
  into_is k None d = refl
  into_is k (Some s) d = refl

  pub param_same : (q : Bool) (f : Option Place) (own : Skel) (i token : ℕ) → RoleHasSkeleton w token →
      AreFound w (name_start (around w q f) token) →
      param_row wk own i (declared_at w.names.declared (at w token))
      ≡ param_row wl own i (declared_at w.names.declared (at w token))
  param_same q f own i token has h = by (declared_at w.names.declared (at w token)) refl
    where
      by : (o : Option Declared) → declared_at w.names.declared (at w token) ≡ o →
          param_row wk own i o ≡ param_row wl own i o
      by None there = refl
      by (Some d) there = let e = name_same q f token d there (has d there) h in
          joined _ _ _ _ (formed_name_same d e) (joined _ _ _ _ (annotating_same d e)
          (into_is k (param_at (parameters own) i) d ∙ (ap (λ s. into d (param_at (parameters own) i) s) e
          ∙ sym (into_is l (param_at (parameters own) i) d))))

  -- conditions, and operators that compute

  pub chosen_same : (first last : Bool) (a b c d s t : Skel) (where_ : Span) → a ≡ c → b ≡ d →
      ((not first && not last) ≡ true → s ≡ t) →
      chosen wk first last a b s where_ ≡ chosen wl first last c d t where_
  chosen_same true last a b c d s t where_ p q g = refl
  chosen_same false true a b c d s t where_ p q g = refl
  chosen_same false false a b c d s t where_ p q g =
      joined _ _ _ _ (formed_same where_ s t (g refl)) (branched_is a c b d s t p q (g refl))
    where
      branched_is : (a c b d s t : Skel) → a ≡ c → b ≡ d → s ≡ t →
          branched wk a b s where_ ≡ branched wl c d t where_
      branched_is a c b d s t p q r = rw p rw q rw r refl
