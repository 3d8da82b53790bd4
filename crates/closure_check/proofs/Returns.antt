-- What goes on by a return.
use Rattle.std.proofs.Common.{◌≡◌, ℕ, true, Some, slice_get, sym, ◌∙◌, subst}
use Rattle.flow_graph.specs.declared.constraint.Link.{Link}
use Rattle.flow_graph.specs.declared.constraint.Link.TheVariants.{Leave}
use Rattle.flow_graph.specs.declared.constraint.Constraint.{Constraint}
use Rattle.flow_graph.specs.System.{IsInLattice}
use Rattle.flow_laws.proofs.Links.{link_at}
use Rattle.closure_check.specs.declared.claim.Claim.{Claim}
use Rattle.closure_check.specs.declared.rounds.Going.{Going}
use Rattle.closure_check.specs.Checking.{claimed, GoesBack, GoesOn}

leave_from : {s t u v x y : ℕ} → Leave s u v ≡ Leave t x y → u ≡ x
leave_from e = cc

leave_to : {s t u v x y : ℕ} → Leave s u v ≡ Leave t x y → v ≡ y
leave_to e = cc

module _ (given : Claim) (going : Going) (site inner edge from to : ℕ) (c : Constraint)
    (there : slice_get given.graph.now.constraints edge ≡ Some c) (is : c.link ≡ Leave site from to) where
  pub goes_by : ((claimed given).paired inner from ≡ true → GoesOn given going to)
      → GoesBack given going site inner edge
  goes_by goes y pair v st =
      let one : Leave site from to ≡ Leave site y v =
      sym is ∙ link_at given.graph.now given.at edge c (Leave site y v) there st in
      subst (λ (v : ℕ). GoesOn given going v) (leave_to one)
      (goes (subst (λ (y : ℕ). (claimed given).paired inner y ≡ true) (sym (leave_from one)) pair))

  pub by_goes : IsInLattice given.at c.link c.lattices → GoesBack given going site inner edge
      → (claimed given).paired inner from ≡ true → GoesOn given going to
  by_goes carried all pair =
      all from pair to (record {
        constraint = c;
        there = there;
        link_is = is;
        carried = subst (λ (l : Link). IsInLattice given.at l c.lattices) is carried;
      })
