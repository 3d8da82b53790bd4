-- What leads to a variable begins at a constant; least elements over all that does.
use Rattle.std.proofs.Common.{◌≡◌, ℕ, ◌<◌, [], refl, sym, ◌∙◌, subst, Some, arith, inl, inr}
use Rattle.qual_base.specs.declared.places.Owner.{Owner}
use Rattle.qual_base.specs.declared.places.Owner.TheVariants.{Nobody, Function}
use Rattle.lattice_core.specs.Order.{Order, size}
use Rattle.flow_graph.specs.declared.constraint.Link.TheVariants.{Const, Bound}
use Rattle.flow_graph.specs.System.{System, Stands}
use Rattle.flow_graph.specs.CallStrings.{IsCopy}
use Rattle.flow_graph.specs.Paths.{Returning, start, flows, returns, grouped, anew, Calling, calls, calls_on, flows_on, grouped_on, Lead}
use Rattle.flow_laws.specs.Least.{IsLeastOver}
use Rattle.flow_graph.specs.Unfolding.{NamesElementsIn}
use Rattle.flow_laws.specs.Laws.{SolutionStands, SafeKeepsBounds, NamesInEach, JoinsAreSolution}
use Rattle.flow_laws.proofs.Links.{has_of}
use Rattle.flow_laws.proofs.Join.{least_over}

-- the owner's copy with the empty call string
pub root : (sys : System) (depth : ℕ) (owner : Owner) → IsCopy sys depth owner []
root sys depth Nobody = refl
root sys depth (Function f) = (tt, omega arith)

-- each path begins at a constant
mutual
  pub start_of_returning : (sys : System) (lattice e v : ℕ) → Returning sys lattice e v
      → (w : ℕ) × (n : ℕ) × Stands sys lattice n (Const lattice e w)
  start_of_returning sys lattice e v (start _ n st) = (v, n, st)
  start_of_returning sys lattice e v (flows u _ n p st) = start_of_returning sys lattice e u p
  start_of_returning sys lattice e v (returns u _ s n p st) = start_of_returning sys lattice e u p
  start_of_returning sys lattice e v (grouped u a b _ s g n m p st q st2) = start_of_returning sys lattice e u p
  start_of_returning sys lattice e v (anew _ c is) = start_of_calling sys lattice e v c

  pub start_of_calling : (sys : System) (lattice e v : ℕ) → Calling sys lattice e v
      → (w : ℕ) × (n : ℕ) × Stands sys lattice n (Const lattice e w)
  start_of_calling sys lattice e v (calls u _ s n p st) = start_of_returning sys lattice e u p
  start_of_calling sys lattice e v (calls_on u _ s n c st) = start_of_calling sys lattice e u c
  start_of_calling sys lattice e v (flows_on u _ n c st) = start_of_calling sys lattice e u c
  start_of_calling sys lattice e v (grouped_on u a b _ s g n m c st q st2) = start_of_calling sys lattice e u c

-- what leads anywhere is an element
pub lead_element : (sys : System) (lattice : ℕ) (order : Order) → NamesElementsIn sys lattice order → (e v : ℕ)
    → Lead sys lattice e v → e < size order
lead_element sys lattice order names e v (inl p) =
    let s = start_of_returning sys lattice e v p in
    names.const s.1 e s.0 s.2
lead_element sys lattice order names e v (inr c) =
    let s = start_of_calling sys lattice e v c in
    names.const s.1 e s.0 s.2

-- in a lattice with a test of which elements lead where, there is a solution
pub solution_stands : SolutionStands
solution_stands sys lattice order comes lat names is =
    let one : (v : ℕ) → (r : ℕ) × IsLeastOver order (λ e. Lead sys lattice e v) r =
    λ v. least_over order (λ e. Lead sys lattice e v) (λ e. comes e v) lat
    (λ e l. ((is e v).1 l, lead_element sys lattice order names e v l)) (λ e t. (is e v).0 t) in
    (λ v. (one v).0, λ v. (one v).1)

pub safe_keeps_bounds : SafeKeepsBounds
safe_keeps_bounds sys lattice order solution names least safe n v b st =
    (least v).least b (names.bound n v b st) (λ e l. safe n v b e st l)

order_is : {x y : Order} → Some x ≡ Some y → x ≡ y
order_is e = cc

-- a system that names elements of each lattice does so in one of them
pub names_in_each : NamesInEach
names_in_each sys orders lattice order names there = record {
  const = λ n e v st.
      let named = names.const n lattice e v (has_of sys lattice n (Const lattice e v) st) in
      subst (λ o. e < size o) (order_is (sym named.1 ∙ there)) named.2;
  bound = λ n v b st.
      let named = names.bound n lattice b v (has_of sys lattice n (Bound v lattice b) st) in
      subst (λ o. b < size o) (order_is (sym named.1 ∙ there)) named.2;
}

-- the joins of the sets of all that leads to each variable are a solution
pub joins_are_solution : JoinsAreSolution
joins_are_solution sys lattice order sets solution names exact joins v = record {
  element = (joins v).element;
  upper = λ e lead. (joins v).upper e (lead_element sys lattice order names e v lead) ((exact v e).1 lead);
  least = λ d element above. (joins v).least d element (λ e is in_set. above e ((exact v e).0 in_set));
}
