-- A search over the bounds of each lattice.
use Rattle.std.proofs.Common.{◌≡◌, ℕ, Bool, true, false, List, length, slice_get, Option, Some, None, refl, sym, ◌∙◌, ap, subst, ◌⊎◌, inl, inr}
use Rattle.std.proofs.lemmas.Option.{slice_get_within}
use Rattle.std.proofs.lemmas.Bool.Decides.{eqb_tells}
use Rattle.lattice_core.specs.Order.{Order, leq}
use Rattle.flow_graph.specs.declared.constraint.Link.{Link}
use Rattle.flow_graph.specs.declared.constraint.Link.TheVariants.{Le, Const, Bound, Enter, Leave}
use Rattle.flow_graph.specs.declared.constraint.Constraint.{Constraint}
use Rattle.flow_graph.specs.System.{System, Stands}
use Rattle.flow_graph.specs.Unfolding.{IsAccepted, IsAcceptedIn, IsExceeded}
use Rattle.flow_laws.specs.Least.{KeepsBounds}
use Rattle.flow_laws.specs.Rejected.{HasExceeded, InEach}
use Rattle.flow_laws.proofs.Links.{link_at, bound_var, bound_elem, bound_lattice}
use Rattle.flow_laws.proofs.Search.{search_below}
use Rattle.flow_laws.proofs.Force.{exceeded_is_refuted}

module _ (sys : System) (lattice : ℕ) (order : Order) (solution : ℕ → ℕ) where
  abbrev KeepsAt : ℕ → Type 0
  KeepsAt n = (v b : ℕ) → Stands sys lattice n (Bound v lattice b) → leq order (solution v) b ≡ true

  abbrev OverAt : ℕ → Type 0
  OverAt n = (v : ℕ) × (b : ℕ) × Stands sys lattice n (Bound v lattice b) × (leq order (solution v) b ≡ false)

  bound_tells : (n : ℕ) → KeepsAt n ⊎ OverAt n
  bound_tells n = by_constraint (slice_get sys.constraints n) refl
    where
      -- a bound in the lattice
      by_order : (c : Constraint) (v b : ℕ) → slice_get sys.constraints n ≡ Some c → c.link ≡ Bound v lattice b
          → (t : Bool) → leq order (solution v) b ≡ t → KeepsAt n ⊎ OverAt n
      by_order c v b is link_is true fits = inl (λ x d st.
          let same : Bound v lattice b ≡ Bound x lattice d =
          sym link_is ∙ link_at sys lattice n c (Bound x lattice d) is st in
          rw (← bound_var same, ← bound_elem same) fits)
      by_order c v b is link_is false over =
          inr (v, b, record { constraint = c; there = is; link_is = link_is; carried = refl }, over)

      by_link : (c : Constraint) → slice_get sys.constraints n ≡ Some c → (link : Link) → c.link ≡ link
          → KeepsAt n ⊎ OverAt n
      by_link c is (Le u v) link_is =
          inl (λ x d st. let wrong : Le u v ≡ Bound x lattice d =
          sym link_is ∙ link_at sys lattice n c (Bound x lattice d) is st in absurd cc)
      by_link c is (Const l e v) link_is =
          inl (λ x d st. let wrong : Const l e v ≡ Bound x lattice d =
          sym link_is ∙ link_at sys lattice n c (Bound x lattice d) is st in absurd cc)
      by_link c is (Enter s u v) link_is =
          inl (λ x d st. let wrong : Enter s u v ≡ Bound x lattice d =
          sym link_is ∙ link_at sys lattice n c (Bound x lattice d) is st in absurd cc)
      by_link c is (Leave s u v) link_is =
          inl (λ x d st. let wrong : Leave s u v ≡ Bound x lattice d =
          sym link_is ∙ link_at sys lattice n c (Bound x lattice d) is st in absurd cc)
      by_link c is (Bound v l b) link_is = elim (eqb_tells l lattice) [
        | inl same ↦ by_order c v b is (link_is ∙ ap (λ l. Bound v l b) same.1) (leq order (solution v) b) refl
        | inr other ↦ inl (λ x d st.
            absurd (other.1 (bound_lattice (sym link_is ∙ link_at sys lattice n c (Bound x lattice d) is st))))
      ]

      by_constraint : (o : Option Constraint) → slice_get sys.constraints n ≡ o → KeepsAt n ⊎ OverAt n
      by_constraint None is = inl (λ v b st. let wrong : None ≡ Some st.constraint = sym is ∙ st.there in absurd cc)
      by_constraint (Some c) is = by_link c is c.link refl

  -- the solution keeps all bounds, or is over one
  pub keeps_or_over : KeepsBounds sys lattice order solution ⊎ ((n : ℕ) × OverAt n)
  keeps_or_over = elim (search_below KeepsAt OverAt bound_tells (length sys.constraints)) [
    | inl all ↦ inl (λ n v b st. all n (slice_get_within sys.constraints n st.constraint st.there) v b st)
    | inr found ↦ inr found
  ]

module _ (sys : System) (orders : List Order)
    (tells : InEach orders (λ lattice order. IsAcceptedIn sys lattice order
    ⊎ ((n : ℕ) × IsExceeded sys lattice order n))) where
  abbrev AcceptedAt : ℕ → Type 0
  AcceptedAt lattice = (order : Order) → slice_get orders lattice ≡ Some order → IsAcceptedIn sys lattice order

  order_is : {x y : Order} → Some x ≡ Some y → x ≡ y
  order_is e = cc

  lattice_tells : (lattice : ℕ) → AcceptedAt lattice ⊎ HasExceeded sys orders
  lattice_tells lattice = by_order (slice_get orders lattice) refl
    where
      by_order : (o : Option Order) → slice_get orders lattice ≡ o → AcceptedAt lattice ⊎ HasExceeded sys orders
      by_order None is = inl (λ order there. let wrong : None ≡ Some order = sym is ∙ there in absurd cc)
      by_order (Some order) is = elim (tells lattice order is) [
        | inl accepted ↦ inl (λ other there. subst (IsAcceptedIn sys lattice) (order_is (sym is ∙ there)) accepted)
        | inr over ↦ inr (record { lattice = lattice; order = order; there = is; number = over.0; exceeded = over.1 })
      ]

  pub accepted_or_exceeded : IsAccepted sys orders ⊎ HasExceeded sys orders
  accepted_or_exceeded = elim (search_below AcceptedAt (λ n. HasExceeded sys orders) lattice_tells (length orders)) [
    | inl all ↦ inl (λ lattice order there. all lattice (slice_get_within orders lattice order there) order there)
    | inr found ↦ inr found.1
  ]

pub has_refutes : (sys : System) (orders : List Order) → HasExceeded sys orders → IsAccepted sys orders → ⊥
has_refutes sys orders has accepted =
    exceeded_is_refuted sys has.lattice has.order has.number has.exceeded (accepted has.lattice has.order has.there)
