-- A test of what reaches a copy.
use Rattle.std.proofs.Common.{◌≡◌, ℕ, Bool, true, false, List, [], ◌∷◌, length, slice_get, Option, Some, None, refl, sym, ◌∙◌, ap, subst, ◌⊎◌, inl, inr, ◌↔◌}
use Rattle.std.specs.Int.{bit_at}
use Rattle.std.proofs.lemmas.Option.{slice_get_within}
use Rattle.std.proofs.lemmas.Bool.Decides.{eqb_tells}
use Rattle.qual_base.specs.declared.places.Owner.{Owner}
use Rattle.qual_base.specs.declared.places.Owner.TheVariants.{Nobody, Function}
use Rattle.flow_graph.specs.declared.constraint.Link.{Link}
use Rattle.flow_graph.specs.declared.constraint.Link.TheVariants.{Le, Const, Bound, Enter, Leave}
use Rattle.flow_graph.specs.declared.constraint.Constraint.{Constraint}
use Rattle.flow_graph.specs.System.{System, owner_of, Stands}
use Rattle.flow_graph.specs.Paths.{Matches, stay, longer, Match, Returning}
use Rattle.flow_graph.proofs.Links.{some_constraint}
use Rattle.flow_laws.specs.Sets.{Reaches}
use Rattle.flow_laws.specs.PathLaws.{MatchesJoin, ReturningGoesOn, CallingGoesOn, ReachesLeads, ReachedIsTested}
use Rattle.flow_laws.proofs.Links.{link_at, enter_outer, enter_inner, enter_site}
use Rattle.flow_laws.proofs.Search.{search_below}
use Rattle.flow_laws.proofs.Reaching.{joined, returning_on, calling_on, leads}

pub matches_join : MatchesJoin
matches_join sys lattice f u x v p q = joined sys lattice f u x v p q

pub returning_goes_on : ReturningGoesOn
returning_goes_on sys lattice e f x v p m = returning_on sys lattice e f x v p m

pub calling_goes_on : CallingGoesOn
calling_goes_on sys lattice e f x v c m = calling_on sys lattice e f x v c m

pub reaches_leads : ReachesLeads
reaches_leads sys lattice e v sites r = leads sys lattice e v sites r

abbrev Decided : Type 0 → Type 0
Decided A = A ⊎ (A → ⊥)

by_test : (A : Type 0) (b : Bool) → (b ≡ true) ↔ A → Decided A
by_test A true is = inl (is.0 refl)
by_test A false is = inr (λ a. let wrong : false ≡ true = is.1 a in absurd cc)

test_of : (A : Type 0) → Decided A → (b : Bool) × ((b ≡ true) ↔ A)
test_of A (inl a) = (true, (λ e. a, λ a. refl))
test_of A (inr not) = (false, (λ e. absurd cc, λ a. absurd (not a)))

module _ (sys : System) (lattice : ℕ) where
  -- a path inside a function from one variable to another
  abbrev Inside : ℕ → ℕ → Type 0
  Inside a v = (g : ℕ) × Matches sys lattice g a v

  of_match : (a v : ℕ) → Match sys lattice a v → Inside a v
  of_match a v (f, x, m, part) = (f, longer f a x v m part)

  not_inside : (a v : ℕ) → (Match sys lattice a v → ⊥) → ((f : ℕ) → a ≡ v → owner_of sys a ≡ Function f → ⊥)
      → Inside a v → ⊥
  not_inside a v no_match no_stay (g, m) = by_path g a v m no_match no_stay
    where
      by_path : (g a v : ℕ) → Matches sys lattice g a v → (Match sys lattice a v → ⊥)
          → ((f : ℕ) → a ≡ v → owner_of sys a ≡ Function f → ⊥) → ⊥
      by_path g a v (stay _ _ is) no_match no_stay = no_stay g refl is
      by_path g a v (longer _ _ x _ m part) no_match no_stay = no_match (g, x, m, part)

  inside_tells : (a v : ℕ) → Decided (Match sys lattice a v) → Decided (Inside a v)
  inside_tells a v (inl m) = inl (of_match a v m)
  inside_tells a v (inr no_match) = elim (eqb_tells a v) [
    | inr other ↦ inr (not_inside a v no_match (λ f same is. other.1 same))
    | inl same ↦ by_owner (owner_of sys a) refl same.1
  ]
    where
      by_owner : (o : Owner) → owner_of sys a ≡ o → a ≡ v → Decided (Inside a v)
      by_owner Nobody is same =
          inr (not_inside a v no_match (λ f same owned. let wrong : Nobody ≡ Function f = sym is ∙ owned in cc))
      by_owner (Function f) is same = inl (f, subst (Matches sys lattice f a) same (stay f a is))

  -- a way in through the site by the constraint of a number
  abbrev WayIn : ℕ → ℕ → ℕ → List ℕ → ℕ → Type 0
  WayIn e v s sites n =
      (u : ℕ) × (a : ℕ) × (g : ℕ) × Stands sys lattice n (Enter s u a) × Reaches sys lattice e u sites
      × Matches sys lattice g a v

  module _ (e v s : ℕ) (sites : List ℕ) (reach : (u : ℕ) → Decided (Reaches sys lattice e u sites))
      (inside : (n u a : ℕ) → Stands sys lattice n (Enter s u a) → Decided (Inside a v)) where
    by_parts : (n : ℕ) (c : Constraint) (u a : ℕ) → slice_get sys.constraints n ≡ Some c → c.link ≡ Enter s u a
        → bit_at c.lattices lattice ≡ 1 →
        Decided (Reaches sys lattice e u sites) → Decided (Inside a v) → Decided (WayIn e v s sites n)
    by_parts n c u a is link_is carried (inl r) (inl m) =
        inl (u, a, m.0, record { constraint = c; there = is; link_is = link_is; carried = carried }, r, m.1)
    by_parts n c u a is link_is carried (inr not) inside = inr (λ way.
        let same : Enter s u a ≡ Enter s way.0 way.1 =
        sym link_is ∙ link_at sys lattice n c (Enter s way.0 way.1) is way.3 in
        not (subst (λ u. Reaches sys lattice e u sites) (sym (enter_outer same)) way.4))
    by_parts n c u a is link_is carried (inl r) (inr not) = inr (λ way.
        let same : Enter s u a ≡ Enter s way.0 way.1 =
        sym link_is ∙ link_at sys lattice n c (Enter s way.0 way.1) is way.3 in
        not (way.2, subst (λ a. Matches sys lattice way.2 a v) (sym (enter_inner same)) way.5))

    no_way : (n : ℕ) (c : Constraint) → slice_get sys.constraints n ≡ Some c → ((u a : ℕ) → c.link ≡ Enter s u a → ⊥)
        → WayIn e v s sites n → ⊥
    no_way n c is no_enter way = no_enter way.0 way.1 (link_at sys lattice n c (Enter s way.0 way.1) is way.3)

    by_mask : (n : ℕ) (c : Constraint) (u a : ℕ) → slice_get sys.constraints n ≡ Some c → c.link ≡ Enter s u a
        → Decided (WayIn e v s sites n)
    by_mask n c u a is link_is = elim (eqb_tells (bit_at c.lattices lattice) 1) [
      | inl carried ↦ by_parts n c u a is link_is carried.1 (reach u)
          (inside n u a (record { constraint = c; there = is; link_is = link_is; carried = carried.1 }))
      | inr other ↦ inr (λ way.
          other.1 (ap (λ c. bit_at c.lattices lattice) (some_constraint (sym is ∙ way.3.there)) ∙ way.3.carried))
    ]

    by_link : (n : ℕ) (c : Constraint) → slice_get sys.constraints n ≡ Some c → (link : Link) → c.link ≡ link
        → Decided (WayIn e v s sites n)
    by_link n c is (Le u x) link_is =
        inr (no_way n c is (λ y a same. let wrong : Le u x ≡ Enter s y a = sym link_is ∙ same in cc))
    by_link n c is (Const l d x) link_is =
        inr (no_way n c is (λ y a same. let wrong : Const l d x ≡ Enter s y a = sym link_is ∙ same in cc))
    by_link n c is (Bound x l b) link_is =
        inr (no_way n c is (λ y a same. let wrong : Bound x l b ≡ Enter s y a = sym link_is ∙ same in cc))
    by_link n c is (Leave t u x) link_is =
        inr (no_way n c is (λ y a same. let wrong : Leave t u x ≡ Enter s y a = sym link_is ∙ same in cc))
    by_link n c is (Enter t u a) link_is = elim (eqb_tells t s) [
      | inl same ↦ by_mask n c u a is (link_is ∙ ap (λ t. Enter t u a) same.1)
      | inr other ↦ inr (no_way n c is (λ y b same. other.1 (enter_site (sym link_is ∙ same))))
    ]

    way_tells : (n : ℕ) → Decided (WayIn e v s sites n)
    way_tells n = by_constraint (slice_get sys.constraints n) refl
      where
        by_constraint : (o : Option Constraint) → slice_get sys.constraints n ≡ o → Decided (WayIn e v s sites n)
        by_constraint None is = inr (λ way. let wrong : None ≡ Some way.3.constraint = sym is ∙ way.3.there in cc)
        by_constraint (Some c) is = by_link n c is c.link refl

    turned : (n : ℕ) → (WayIn e v s sites n → ⊥) ⊎ WayIn e v s sites n
    turned n = elim (way_tells n) [ inl way ↦ inr way | inr not ↦ inl not ]

    some_way : Decided ((n : ℕ) × WayIn e v s sites n)
    some_way =
        elim (search_below (λ n. WayIn e v s sites n → ⊥) (λ n. WayIn e v s sites n) turned (length sys.constraints)) [
          | inr found ↦ inl found
          | inl all ↦ inr
              (λ found.
              all found.0 (slice_get_within sys.constraints found.0 found.1.3.constraint found.1.3.there) found.1)
        ]

  reaches_tells : ((e v : ℕ) → Decided (Returning sys lattice e v))
      → ((n s u a v : ℕ) → Stands sys lattice n (Enter s u a) → Decided (Inside a v)) → (e v : ℕ) (sites : List ℕ)
      → Decided (Reaches sys lattice e v sites)
  reaches_tells returned inside e v [] = returned e v
  reaches_tells returned inside e v (s ∷ sites) = elim (returned e v) [
    | inl p ↦ inl (inl p)
    | inr no_return ↦
        elim (some_way e v s sites (λ u. reaches_tells returned inside e u sites) (λ n u a st. inside n s u a v st)) [
          | inl way ↦ inl (inr (way.1.0, way.1.1, way.1.2, way.0, way.1.3, way.1.4, way.1.5))
          | inr none ↦
              inr (λ r.
              elim r [ inl p ↦ no_return p | inr way ↦ none (way.3, (way.0, way.1, way.2, way.4, way.5, way.6)) ])
        ]
  ]

-- with tests of returning and of matched paths there is a test of what reaches which copies
pub reached_is_tested : ReachedIsTested
reached_is_tested sys lattice returned matched returned_is matched_is =
    let one : (e v : ℕ) (sites : List ℕ) → Decided (Reaches sys lattice e v sites) = reaches_tells sys lattice
    (λ e v. by_test (Returning sys lattice e v) (returned e v) (returned_is e v))
    (λ n s u a v st. inside_tells sys lattice a v
    (by_test (Match sys lattice a v) (matched a v) (matched_is n s u a v st))) in
    let test : (e v : ℕ) (sites : List ℕ) → (b : Bool) × ((b ≡ true) ↔ Reaches sys lattice e v sites) =
    λ e v sites. test_of (Reaches sys lattice e v sites) (one e v sites) in
    (λ e v sites. (test e v sites).0, λ e v sites. (test e v sites).1)
