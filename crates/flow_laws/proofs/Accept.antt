-- The least elements of the copies meet the unfolding.
use Rattle.std.proofs.Common.{◌≡◌, ℕ, ◌<◌, Bool, true, false, List, [], ◌∷◌, refl, ◌⊎◌, inl, inr, ◌↔◌}
use Rattle.lattice_core.specs.Order.{Order, size, leq, IsOrder}
use Rattle.flow_graph.specs.System.{System, owner_of, IsWellOwned}
use Rattle.flow_graph.specs.Unfolding.{Assignment, at, seen_from, Rises, Meets, CanStay}
use Rattle.flow_graph.specs.Paths.{start, Lead}
use Rattle.flow_laws.specs.Least.{IsLeastOver, IsSolution, KeepsBounds}
use Rattle.flow_laws.specs.Sets.{Reaches, IsLeastInCopies}
use Rattle.flow_laws.specs.Accepting.{CopiesStand, KeptIsAccepted, SolutionIsPrinted, ExceededIsOver, OverIsExceeded}
use Rattle.flow_laws.proofs.Links.{one_bound}
use Rattle.flow_laws.proofs.Search.{search_below}
use Rattle.flow_laws.proofs.Join.{least_over}
use Rattle.flow_laws.proofs.Leads.{root, lead_element}
use Rattle.flow_laws.proofs.Force.{leads_force, paths_refute}
use Rattle.flow_laws.proofs.Reaching.{leads, anywhere, at_home, from_home, entered, flowed, left}

-- in a lattice with a test of what reaches which copies, each copy has a least element above that
pub copies_stand : CopiesStand
copies_stand sys lattice order reached lat names is =
    let one : (v : ℕ) (sites : List ℕ) → (r : ℕ) × IsLeastOver order (λ e. Reaches sys lattice e v sites) r =
    λ v sites. least_over order (λ e. Reaches sys lattice e v sites) (λ e. reached e v sites) lat
    (λ e r. ((is e v sites).1 r, lead_element sys lattice order names e v (leads sys lattice e v sites r)))
    (λ e t. (is e v sites).0 t) in
    (λ v sites. (one v sites).0, λ v sites. (one v sites).1)

module _ (sys : System) (lattice : ℕ) (order : Order) (solution : ℕ → ℕ) (copies : Assignment) (owned : IsWellOwned sys)
    (least : IsSolution sys lattice order solution) (in_copies : IsLeastInCopies sys lattice order copies) where
  -- what reaches one copy reaches another
  raised : (u v : ℕ) (one other : List ℕ) → ((e : ℕ) → Reaches sys lattice e u one → Reaches sys lattice e v other)
      → leq order (copies u one) (copies v other) ≡ true
  raised u v one other h =
      (in_copies u one).least (copies v other) (in_copies v other).element (λ e r. (in_copies v other).upper e (h e r))

  rising : (depth : ℕ) → Rises sys lattice order depth copies
  rising depth = record {
    elements = λ v sites. (in_copies v sites).element;
    le = λ n u v sites st copy. raised u v _ _ (λ e r.
        at_home sys lattice e v sites (flowed sys lattice owned e n u v sites st (from_home sys lattice e u sites r)));
    const = λ n e v sites st copy.
        (in_copies v _).upper e (anywhere sys lattice e v (seen_from (owner_of sys v) sites) (start v n st));
    enter = λ n s u v site sites st there copy fits. raised u v _ _ (λ e r. at_home sys lattice e v (s ∷ sites)
        (entered sys lattice owned e s n u v sites st (from_home sys lattice e u sites r)));
    leave = λ n s u v site sites st there copy fits. raised u v _ _ (λ e r. at_home sys lattice e v sites
        (left sys lattice owned e s n u v sites st (from_home sys lattice e u (s ∷ sites) r)));
  }

  pub below_solution : (v : ℕ) (sites : List ℕ) → leq order (copies v sites) (solution v) ≡ true
  below_solution v sites =
      (in_copies v sites).least (solution v) (least v).element
      (λ e r. (least v).upper e (leads sys lattice e v sites r))

  pub met : IsOrder order → KeepsBounds sys lattice order solution → (depth : ℕ) → Meets sys lattice order depth copies
  met ordered keeps depth = record {
    rises = rising depth;
    bound = λ n b v sites st copy. ordered.through (at sys copies v sites) (solution v) b
        (below_solution v (seen_from (owner_of sys v) sites)) (keeps n v b st);
  }

pub kept_is_accepted : KeptIsAccepted
kept_is_accepted sys lattice order solution copies owned ordered least in_copies keeps depth =
    (copies, met sys lattice order solution copies owned least in_copies ordered keeps depth)

-- what leads to a variable is at or below what it can stay at
below_stay : (sys : System) (lattice : ℕ) (order : Order) → IsWellOwned sys → IsOrder order → (e v q : ℕ)
    → Lead sys lattice e v → CanStay sys lattice order v q → leq order e q ≡ true
below_stay sys lattice order owned ordered e v q lead can =
    let f = leads_force sys lattice order owned ordered e v lead in
    let stays = can f.depth in
    ordered.through e (at sys stays.0 v f.sites) q (f.above stays.0 stays.1.rises) (stays.2 f.sites f.copy)

-- where a solution keeps the bounds, its element of each variable is the one that is printed
pub solution_is_printed : SolutionIsPrinted
solution_is_printed sys lattice order solution copies owned ordered least in_copies keeps v = record {
  can = λ depth. (
    copies,
    met sys lattice order solution copies owned least in_copies ordered keeps depth,
    λ sites copy.
        below_solution sys lattice order solution copies owned least in_copies v (seen_from (owner_of sys v) sites),
  );
  least = λ q can.
      let element : q < size order = (ordered.inside _ q ((can 0).2 [] (root sys 0 (owner_of sys v)))).1 in
      (least v).least q element (λ e lead. below_stay sys lattice order owned ordered e v q lead can);
}

-- at the variable of an exceeded bound the solution is not at or below the bound
pub exceeded_is_over : ExceededIsOver
exceeded_is_over sys lattice order solution copies owned ordered least in_copies n v b stands over =
    by_test (leq order (solution v) b) refl
  where
    by_test : (t : Bool) → leq order (solution v) b ≡ t → leq order (solution v) b ≡ false
    by_test false same = same
    by_test true same =
        absurd (over.unmet copies (rising sys lattice order solution copies owned least in_copies over.depth)
        (λ d x sites st copy.
        let is_one = one_bound sys lattice n v b x d stands st in
        let fits : leq order (solution x) d ≡ true = rw (← is_one.0, ← is_one.1) same in
        ordered.through (at sys copies x sites) (solution x) d (below_solution sys lattice order solution copies owned
        least in_copies x (seen_from (owner_of sys x) sites)) fits))

-- each element that leads to the variable is at or below b, or one is found that is not
module _ (sys : System) (lattice : ℕ) (order : Order) (comes : ℕ → ℕ → Bool)
    (is : (e v : ℕ) → (comes e v ≡ true) ↔ Lead sys lattice e v) (v b : ℕ) where
  abbrev IsBelow : ℕ → Type 0
  IsBelow e = Lead sys lattice e v → leq order e b ≡ true

  abbrev IsAbove : ℕ → Type 0
  IsAbove e = Lead sys lattice e v × (leq order e b ≡ false)

  lead_tells : (e : ℕ) → IsBelow e ⊎ IsAbove e
  lead_tells e = by_tests (comes e v) refl (leq order e b) refl
    where
      by_tests : (c : Bool) → comes e v ≡ c → (t : Bool) → leq order e b ≡ t → IsBelow e ⊎ IsAbove e
      by_tests c there true fits = inl (λ lead. fits)
      by_tests true there false over = inr ((is e v).0 there, over)
      by_tests false there false over = inl (λ lead. let wrong : comes e v ≡ true = (is e v).1 lead in absurd cc)

  one_above : ((e : ℕ) → e < size order → IsBelow e) ⊎ ((e : ℕ) × IsAbove e)
  one_above = search_below IsBelow IsAbove lead_tells (size order)

-- a bound that the solution is not at or below is exceeded, where a test says what leads where
pub over_is_exceeded : OverIsExceeded
over_is_exceeded sys lattice order solution comes owned ordered least is n v b stands over =
    elim (one_above sys lattice order comes is v b) [
      | inr found ↦ paths_refute sys lattice order owned ordered found.0 v n b found.1.0 stands found.1.1
      | inl all ↦ record {
        var = v;
        element = b;
        bound = stands;
        depth = 0;
        unmet = λ map rises keeps.
            let element : b < size order =
            (ordered.inside (at sys map v []) b (keeps b v [] stands (root sys 0 (owner_of sys v)))).1 in
            let fits : leq order (solution v) b ≡ true =
            (least v).least b element
            (λ e lead. all e (ordered.inside e (solution v) ((least v).upper e lead)).0 lead) in
            cc;
      }
    ]
