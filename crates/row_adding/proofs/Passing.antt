-- What passes inside skeletons: in which lattices, and nothing where there are none.
use Rattle.std.proofs.Common.{◌≡◌, ℕ, suc, ◌+◌, ◌^◌, ◌<◌, ◌≤◌, Bool, true, false, List, [], ◌∷◌, ◌++◌, length, map, drop, slice_get, Option, Some, None, refl, sym, ◌∙◌, ap, subst, arith, if◌then◌else◌, option_map}
use Rattle.std.specs.Prelude.{nat_eq, ◌&&◌}
use Rattle.std.proofs.lemmas.Bool.{eqb-true}
use Rattle.qual_base.specs.declared.places.Span.{Span}
use Rattle.qual_base.proofs.Lists.{drop_past}
use Rattle.lattice_core.specs.View.{LatticeView}
use Rattle.flow_graph.specs.declared.constraint.Link.TheVariants.{Le}
use Rattle.flow_graph.specs.declared.constraint.Constraint.{Constraint}
use Rattle.flow_graph.specs.declared.graph.GraphFault.{GraphFault}
use Rattle.flow_graph.specs.System.{System}
use Rattle.flow_rules.specs.Adding.{with}
use Rattle.qual_types.specs.declared.look.Kind.{Kind}
use Rattle.qual_types.specs.declared.look.Kind.TheVariants as kinds
use Rattle.qual_types.specs.Skel.{Skel, flat, ref, fun, Skels, no_skels, more_skels, root}
use Rattle.name_rules.specs.Scopes.{Own, Body, Aggregate, body_of}
use Rattle.name_rules.specs.Values.{own_of}
use Rattle.row_rules.specs.Vals.{contents, is_nothing}
use Rattle.row_rules.specs.Worlds.{Numbered, skeleton_among}
use Rattle.row_rules.specs.Forming.{Ways, lattices_from, in_some, pointing, into_member, into_members, into_fields, formed_in, all_formed_in}
use Rattle.row_adding.specs.Adding.{StopsEarly}
use Rattle.row_adding.specs.Forming.{passes_none, says}
use Rattle.row_adding.specs.declared.forming.Saying.{Saying}
use Rattle.row_adding.proofs.Lists.{with_none}
use Rattle.row_adding.proofs.Bounding.{drop_there}

module _ (saying : Saying) (n : ℕ) (ls : List LatticeView) where
  next : (l : LatticeView) → slice_get ls n ≡ Some l
      → lattices_from (says saying) n (drop n ls)
      ≡ (if says saying l.flows then 2 ^ n else 0) + lattices_from (says saying) (n + 1) (drop (n + 1) ls)
  next l is = ap (lattices_from (says saying) n) (drop_there ls n l is)
      ∙ (let e : suc n ≡ n + 1 = omega arith in
      ap (λ k. (if says saying l.flows then 2 ^ n else 0) + lattices_from (says saying) k (drop (n + 1) ls)) e)

  pub said_here : (l : LatticeView) (r q : ℕ) → slice_get ls n ≡ Some l → true ≡ says saying l.flows → q ≡ 2 ^ n
      → r ≡ lattices_from (says saying) (n + 1) (drop (n + 1) ls) → r + q ≡ lattices_from (says saying) n (drop n ls)
  said_here l r q is holds power so =
      (let e : r + q ≡ q + r = omega arith in e) ∙ ap (λ k. k + r) power ∙ ap (λ k. 2 ^ n + k) so
      ∙ ap (λ b. (if b then 2 ^ n else 0) + lattices_from (says saying) (n + 1) (drop (n + 1) ls)) holds
      ∙ sym (next l is)

  pub not_said : (l : LatticeView) (r : ℕ) → slice_get ls n ≡ Some l → false ≡ says saying l.flows
      → r ≡ lattices_from (says saying) (n + 1) (drop (n + 1) ls) → r ≡ lattices_from (says saying) n (drop n ls)
  not_said l r is fails so =
      so ∙ (let e : lattices_from (says saying) (n + 1) (drop (n + 1) ls)
      ≡ 0 + lattices_from (says saying) (n + 1) (drop (n + 1) ls) = omega arith in e)
      ∙ ap (λ b. (if b then 2 ^ n else 0) + lattices_from (says saying) (n + 1) (drop (n + 1) ls)) fails
      ∙ sym (next l is)

  pub none_left : length ls ≤ n → 0 ≡ lattices_from (says saying) n (drop n ls)
  none_left le = ap (lattices_from (says saying) n) (sym (drop_past ls n le))

-- the members of a body
pub own_are : (all : List Aggregate) (n : ℕ) (body : Body) → body_of all n ≡ Some body → own_of all n ≡ body.own
own_are all n body is = rw is refl

pub no_own : (all : List Aggregate) (n : ℕ) → body_of all n ≡ None → own_of all n ≡ []
no_own all n is = rw is refl

-- nothing passes where no lattice lets it
module _ (ways : Ways) (skeletons : List Numbered) (s : Span) where
  pub no_fields : (v : ℕ) (own : List Own) → ways.field ≡ 0 → into_members ways skeletons s v own ≡ []
  no_fields v [] none = refl
  no_fields v (it ∷ own) none =
      rw (no_fields v own none)
      (by (is_nothing (skeleton_among skeletons it.at)) (root (contents (skeleton_among skeletons it.at))))
    where
      by : (b : Bool) (m : ℕ) → (if b then [] else in_some ways.field s (Le v m)) ++ [] ≡ []
      by true m = refl
      by false m = rw none refl

module _ (ways : Ways) (skeletons : List Numbered) (s : Span) (v : ℕ) where
  -- so too where a struct has no body, and what a body's members give
  pub none_passes : (own : List Own) (a : System) → ways.field ≡ 0 → a ≡ with a (into_members ways skeletons s v own)
  none_passes own a none = with_none a ∙ ap (with a) (sym (no_fields ways skeletons s v own none))

  pub no_body_passes : (all : List Aggregate) (n : ℕ) (a : System) → None ≡ body_of all n
      → a ≡ with a (into_members ways skeletons s v (own_of all n))
  no_body_passes all n a none =
      with_none a ∙ ap (λ own. with a (into_members ways skeletons s v own)) (sym (no_own all n (sym none)))

  pub members_added : (all : List Aggregate) (n : ℕ) (body : Body) (a b : System) → Some body ≡ body_of all n
      → b ≡ with a (into_members ways skeletons s v body.own)
      → b ≡ with a (into_members ways skeletons s v (own_of all n))
  members_added all n body a b is added =
      added ∙ ap (λ own. with a (into_members ways skeletons s v own)) (sym (own_are all n body (sym is)))

  pub members_stop : (all : List Aggregate) (n : ℕ) (body : Body) (a b : System) (f : GraphFault)
      → Some body ≡ body_of all n → StopsEarly a b f (into_members ways skeletons s v body.own)
      → StopsEarly a b f (into_members ways skeletons s v (own_of all n))
  members_stop all n body a b f is stop =
      subst (λ own. StopsEarly a b f (into_members ways skeletons s v own)) (sym (own_are all n body (sym is))) stop

-- where nothing passes anywhere, nothing passes inside a skeleton
module _ (ways : Ways) (skeletons : List Numbered) (all : List Aggregate) (s : Span) (up : ways.up ≡ 0)
    (down : ways.down ≡ 0) (field : ways.field ≡ 0) where
  none_pointing : (v m : ℕ) → pointing ways s v m ≡ []
  none_pointing v m = rw (up, down) refl

  mutual
    pub none_inside : (t : Skel) → formed_in ways skeletons all s t ≡ []
    none_inside (flat v (kinds.Struct n)) = no_fields ways skeletons s v (own_of all n) field
    none_inside (flat v kinds.Base) = refl
    none_inside (flat v kinds.Void) = refl
    none_inside (flat v kinds.Nothing) = refl
    none_inside (ref v t) =
        ap (λ (rows : List Constraint). rows ++ formed_in ways skeletons all s t) (none_pointing v (root t))
        ∙ none_inside t
    none_inside (fun v ps r e) =
        ap (λ (rows : List Constraint). rows ++ formed_in ways skeletons all s r) (none_in_params ps) ∙ none_inside r

    none_in_params : (ps : Skels) → all_formed_in ways skeletons all s ps ≡ []
    none_in_params no_skels = refl
    none_in_params (more_skels t ts) =
        ap (λ (rows : List Constraint). rows ++ all_formed_in ways skeletons all s ts) (none_inside t)
        ∙ none_in_params ts

-- where no lattice lets anything pass up, down or into fields, nothing passes inside a skeleton
none_by : (ways : Ways) (skeletons : List Numbered) (all : List Aggregate) (s : Span) (t : Skel) (a b d : Bool)
    → nat_eq ways.up 0 ≡ a → nat_eq ways.down 0 ≡ b → nat_eq ways.field 0 ≡ d → (a && b && d) ≡ true
    → formed_in ways skeletons all s t ≡ []
none_by ways skeletons all s t true true true e f g h =
    none_inside ways skeletons all s (eqb-true ways.up 0 e) (eqb-true ways.down 0 f) (eqb-true ways.field 0 g) t
none_by ways skeletons all s t true true false e f g h = absurd cc
none_by ways skeletons all s t true false d e f g h = absurd cc
none_by ways skeletons all s t false b d e f g h = absurd cc

-- where nothing passes between a struct and its fields, nothing is added
pub none_formed : (ways : Ways) (skeletons : List Numbered) (all : List Aggregate) (s : Span) (t : Skel) (a : System)
    → passes_none ways ≡ true → a ≡ with a (formed_in ways skeletons all s t)
none_formed ways skeletons all s t a h =
    with_none a ∙ ap (with a) (sym
    (none_by ways skeletons all s t (nat_eq ways.up 0) (nat_eq ways.down 0) (nat_eq ways.field 0) refl refl refl h))
