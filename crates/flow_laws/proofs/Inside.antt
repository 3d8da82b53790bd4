-- What leads to a variable leads to one that a constraint names.
use Rattle.std.proofs.Common.{ℕ, ◌+◌, ◌≤◌, ◌<◌, max, length, arith, inl, inr}
use Rattle.std.proofs.lemmas.Option.{slice_get_cases}
use Rattle.flow_graph.specs.declared.constraint.Link.{Link}
use Rattle.flow_graph.specs.declared.constraint.Link.TheVariants.{Le, Const, Enter, Leave}
use Rattle.flow_graph.specs.System.{System, Stands, AllBelow, vars_of_link}
use Rattle.flow_graph.specs.Paths.{Returning, start, flows, returns, grouped, anew, Calling, calls, calls_on, flows_on, grouped_on}
use Rattle.flow_laws.specs.Laws.{ListIsSolution}
use Rattle.flow_laws.specs.PathLaws.{LeadsInside}
use Rattle.flow_laws.proofs.Links.{has_of}

module _ (sys : System) (lattice vars : ℕ) (all : AllBelow sys vars) where
  below : (n : ℕ) (link : Link) → Stands sys lattice n link → vars_of_link link ≤ vars
  below n link st = all n link (has_of sys lattice n link st)

  mutual
    returning_inside : (e v : ℕ) → Returning sys lattice e v → v < vars
    returning_inside e v (start _ n st) =
        let high : v + 1 ≤ vars = below n (Const lattice e v) st in
        omega (arith, high)
    returning_inside e v (flows u _ n p st) =
        let high : max (u + 1) (v + 1) ≤ vars = below n (Le u v) st in
        omega (arith, high)
    returning_inside e v (returns u _ s n p st) =
        let high : max (u + 1) (v + 1) ≤ vars = below n (Leave s u v) st in
        omega (arith, high)
    returning_inside e v (grouped u a b _ s g n m p st q st2) =
        let high : max (b + 1) (v + 1) ≤ vars = below m (Leave s b v) st2 in
        omega (arith, high)
    returning_inside e v (anew _ c is) = calling_inside e v c

    calling_inside : (e v : ℕ) → Calling sys lattice e v → v < vars
    calling_inside e v (calls u _ s n p st) =
        let high : max (u + 1) (v + 1) ≤ vars = below n (Enter s u v) st in
        omega (arith, high)
    calling_inside e v (calls_on u _ s n c st) =
        let high : max (u + 1) (v + 1) ≤ vars = below n (Enter s u v) st in
        omega (arith, high)
    calling_inside e v (flows_on u _ n c st) =
        let high : max (u + 1) (v + 1) ≤ vars = below n (Le u v) st in
        omega (arith, high)
    calling_inside e v (grouped_on u a b _ s g n m c st q st2) =
        let high : max (b + 1) (v + 1) ≤ vars = below m (Leave s b v) st2 in
        omega (arith, high)

pub leads_inside : LeadsInside
leads_inside sys lattice e v vars all (inl p) = returning_inside sys lattice vars all e v p
leads_inside sys lattice e v vars all (inr c) = calling_inside sys lattice vars all e v c

-- least elements of the variables of constraints, and the bottom past them, are a solution
pub list_is_solution : ListIsSolution
list_is_solution sys lattice order elements bottom element low all least v = elim (slice_get_cases elements v).1 [
  | inl there ↦ rw there.2 (least v there.0 there.2)
  | inr past ↦ rw past.1 (record {
    element = element;
    upper = λ e lead.
        let inside : v < length elements = leads_inside sys lattice e v (length elements) all lead in
        let out : length elements ≤ v = past.0 in
        absurd (omega (arith, inside, out));
    least = λ d is above. low d is;
  })
]
