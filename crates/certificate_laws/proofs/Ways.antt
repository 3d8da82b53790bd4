-- A test of a way in: an Enter of a site between variables of which something is told.
use Rattle.std.proofs.Common.{◌≡◌, ℕ, Bool, true, false, length, slice_get, Option, Some, None, refl, sym, ◌∙◌, ap, subst, ◌⊎◌, inl, inr}
use Rattle.std.specs.Int.{bit_at}
use Rattle.std.proofs.lemmas.Option.{slice_get_within}
use Rattle.std.proofs.lemmas.Bool.Decides.{eqb_tells}
use Rattle.flow_graph.specs.declared.constraint.Link.{Link}
use Rattle.flow_graph.specs.declared.constraint.Link.TheVariants.{Le, Const, Bound, Enter, Leave}
use Rattle.flow_graph.specs.declared.constraint.Constraint.{Constraint}
use Rattle.flow_graph.specs.System.{System, Stands}
use Rattle.flow_graph.proofs.Links.{some_constraint}
use Rattle.flow_laws.proofs.Links.{link_at, enter_outer, enter_inner, enter_site}
use Rattle.flow_laws.proofs.Search.{search_below}

abbrev pub Decided : Type 0 → Type 0
Decided A = A ⊎ (A → ⊥)

pub by_bool : (b : Bool) → Decided (b ≡ true)
by_bool true = inl refl
by_bool false = inr (λ e. cc)

module _ (sys : System) (lattice s : ℕ) (Outer Inner : ℕ → Type 0) (outer : (u : ℕ) → Decided (Outer u))
    (inner : (a : ℕ) → Decided (Inner a)) where
  abbrev pub Way : ℕ → Type 0
  Way n = (u : ℕ) × (a : ℕ) × Stands sys lattice n (Enter s u a) × Outer u × Inner a

  by_parts : (n : ℕ) (c : Constraint) (u a : ℕ) → slice_get sys.constraints n ≡ Some c → c.link ≡ Enter s u a
      → bit_at c.lattices lattice ≡ 1 →
      Decided (Outer u) → Decided (Inner a) → Decided (Way n)
  by_parts n c u a is link_is carried (inl r) (inl m) =
      inl (u, a, record { constraint = c; there = is; link_is = link_is; carried = carried }, r, m)
  by_parts n c u a is link_is carried (inr not) inside = inr (λ way.
      let same : Enter s u a ≡ Enter s way.0 way.1 =
      sym link_is ∙ link_at sys lattice n c (Enter s way.0 way.1) is way.2 in
      not (subst Outer (sym (enter_outer same)) way.3))
  by_parts n c u a is link_is carried (inl r) (inr not) = inr (λ way.
      let same : Enter s u a ≡ Enter s way.0 way.1 =
      sym link_is ∙ link_at sys lattice n c (Enter s way.0 way.1) is way.2 in
      not (subst Inner (sym (enter_inner same)) way.4))

  no_way : (n : ℕ) (c : Constraint) → slice_get sys.constraints n ≡ Some c → ((u a : ℕ) → c.link ≡ Enter s u a → ⊥)
      → Way n → ⊥
  no_way n c is no_enter way = no_enter way.0 way.1 (link_at sys lattice n c (Enter s way.0 way.1) is way.2)

  by_mask : (n : ℕ) (c : Constraint) (u a : ℕ) → slice_get sys.constraints n ≡ Some c → c.link ≡ Enter s u a
      → Decided (Way n)
  by_mask n c u a is link_is = elim (eqb_tells (bit_at c.lattices lattice) 1) [
    | inl carried ↦ by_parts n c u a is link_is carried.1 (outer u) (inner a)
    | inr other ↦ inr
        (λ way. other.1 (ap (λ c. bit_at c.lattices lattice) (some_constraint (sym is ∙ way.2.there)) ∙ way.2.carried))
  ]

  by_link : (n : ℕ) (c : Constraint) → slice_get sys.constraints n ≡ Some c → (link : Link) → c.link ≡ link
      → Decided (Way n)
  by_link n c is (Le u x) link_is =
      inr (no_way n c is (λ y a same. let wrong : Le u x ≡ Enter s y a = sym link_is ∙ same in cc))
  by_link n c is (Const l d x) link_is =
      inr (no_way n c is (λ y a same. let wrong : Const l d x ≡ Enter s y a = sym link_is ∙ same in cc))
  by_link n c is (Bound x l b) link_is =
      inr (no_way n c is (λ y a same. let wrong : Bound x l b ≡ Enter s y a = sym link_is ∙ same in cc))
  by_link n c is (Leave t u x) link_is =
      inr (no_way n c is (λ y a same. let wrong : Leave t u x ≡ Enter s y a = sym link_is ∙ same in cc))
  by_link n c is (Enter t u a) link_is = elim (eqb_tells t s) [
    | inl same ↦ by_mask n c u a is (link_is ∙ ap (λ t. Enter t u a) same.1)
    | inr other ↦ inr (no_way n c is (λ y b same. other.1 (enter_site (sym link_is ∙ same))))
  ]

  way_tells : (n : ℕ) → Decided (Way n)
  way_tells n = by_constraint (slice_get sys.constraints n) refl
    where
      by_constraint : (o : Option Constraint) → slice_get sys.constraints n ≡ o → Decided (Way n)
      by_constraint None is = inr (λ way. let wrong : None ≡ Some way.2.constraint = sym is ∙ way.2.there in cc)
      by_constraint (Some c) is = by_link n c is c.link refl

  turned : (n : ℕ) → (Way n → ⊥) ⊎ Way n
  turned n = elim (way_tells n) [ inl way ↦ inr way | inr not ↦ inl not ]

  pub some_way : Decided ((n : ℕ) × Way n)
  some_way = elim (search_below (λ n. Way n → ⊥) Way turned (length sys.constraints)) [
    | inr found ↦ inl found
    | inl all ↦ inr
        (λ found. all found.0 (slice_get_within sys.constraints found.0 found.1.2.constraint found.1.2.there) found.1)
  ]
