-- A constraint that stands with its link.
use Rattle.std.proofs.Common.{◌≡◌, ℕ, ◌≤◌, Option, Some, slice_get, sym, ◌∙◌, ap, subst}
use Rattle.flow_graph.specs.Index.{IsKeyed}
use Rattle.flow_graph.specs.declared.constraint.Link.{Link}
use Rattle.flow_graph.specs.declared.constraint.Constraint.{Constraint}
use Rattle.flow_graph.specs.System.{System, IsInLattice, Stands, AllBelow, vars_of_link}
use Rattle.flow_graph.proofs.Links.{some_constraint}

module _ (sys : System) (lattice n : ℕ) (constraint : Constraint) (link : Link)
    (there : slice_get sys.constraints n ≡ Some constraint) (is : constraint.link ≡ link) where
  pub stands_in : IsInLattice lattice constraint.link constraint.lattices → Stands sys lattice n link
  stands_in carried = record {
    constraint = constraint;
    there = there;
    link_is = is;
    carried = subst (λ l. IsInLattice lattice l constraint.lattices) is carried;
  }

  pub low_of : (vars : ℕ) → AllBelow sys vars → vars_of_link link ≤ vars
  low_of vars below = below n link (record { constraint = constraint; there = there; link_is = is })

  -- a constraint is one link
  pub one_link : (other : Link) → Stands sys lattice n other → link ≡ other
  one_link other st =
      let same : constraint ≡ st.constraint = cc in
      sym is ∙ ap (λ (c : Constraint). c.link) same ∙ st.link_is

  -- a constraint with a key has it by its link
  pub key_of_link : (key : Link → Option ℕ) (k : ℕ) → IsKeyed sys key k n → key link ≡ Some k
  key_of_link key k keyed =
      let same : keyed.constraint ≡ constraint = some_constraint (sym keyed.there ∙ there) in
      sym (ap (λ (c : Constraint). key c.link) same ∙ ap key is) ∙ keyed.keyed
