-- Each assignment that rises is raised along a path.
use Rattle.std.proofs.Common.{◌≡◌, ℕ, ◌+◌, ◌≤◌, Bool, true, false, List, [], ◌∷◌, length, refl, sym, ◌∙◌, ap, subst, arith, inl, inr}
use Rattle.qual_base.specs.declared.places.Owner.{Owner}
use Rattle.qual_base.specs.declared.places.Owner.TheVariants.{Nobody, Function}
use Rattle.lattice_core.specs.Order.{Order, leq, IsOrder}
use Rattle.flow_graph.specs.declared.constraint.Link.TheVariants.{Le, Const, Bound, Enter, Leave}
use Rattle.flow_graph.specs.declared.constraint.Constraint.{Constraint}
use Rattle.flow_graph.specs.System.{System, owner_of, Stands, IsWellOwned}
use Rattle.flow_graph.specs.CallStrings.{IsCallString, IsCopy, either}
use Rattle.flow_graph.specs.Unfolding.{Assignment, at, seen_from, Rises}
use Rattle.flow_graph.specs.Paths.{Matches, stay, longer, Part, flow, group, Returning, start, flows, returns, grouped, anew, Calling, calls, calls_on, flows_on, grouped_on, Lead}
use Rattle.flow_laws.proofs.Depths.{depth_inside, depth_of_part, open_calls, depth_returning, depth_calling, depth_of}
use Rattle.flow_laws.specs.Refuting.{LeadsForce, PathsRefute, ExceededIsRefuted, AcceptedKeepsPaths, MoreIsHarder, NoConstantIsAccepted, OneCopyServes}
use Rattle.flow_laws.proofs.Leads.{root}
use Rattle.flow_laws.proofs.Owners.{seen_is, seen_twice, seen_within, copy_on, flow_to, flow_from, start_owner, end_owner, entering, leaving, same_function, same_outer}

module _ (sys : System) (lattice : ℕ) (order : Order) (owned : IsWellOwned sys) (ordered : IsOrder order) where
  -- a call leads on from each copy of the variable outside, and a return leads back into each
  pub enters : (depth : ℕ) (map : Assignment) (n s u v : ℕ) (sites : List ℕ) → Rises sys lattice order depth map
      → Stands sys lattice n (Enter s u v) → IsCopy sys depth (owner_of sys u) sites →
      length (s ∷ sites) ≤ depth → leq order (at sys map u sites) (at sys map v (s ∷ sites)) ≡ true
  enters depth map n s u v sites rises st copy fits =
      let call = entering sys lattice owned n s u v st in
      rises.enter n s u v call.it sites st call.there (subst (λ o. IsCopy sys depth o sites) call.outer_is copy) fits

  pub leaves : (depth : ℕ) (map : Assignment) (n s u v : ℕ) (sites : List ℕ) → Rises sys lattice order depth map
      → Stands sys lattice n (Leave s u v) → IsCopy sys depth (owner_of sys v) sites →
      length (s ∷ sites) ≤ depth → leq order (at sys map u (s ∷ sites)) (at sys map v sites) ≡ true
  leaves depth map n s u v sites rises st copy fits =
      let call = leaving sys lattice owned n s u v st in
      rises.leave n s u v call.it sites st call.there (subst (λ o. IsCopy sys depth o sites) call.outer_is copy) fits

  -- what a path inside a function raises in each copy, at each depth that leaves room for its groups
  abbrev pub Raises : ℕ → ℕ → ℕ → Type 0
  Raises u v room =
      (depth : ℕ) (map : Assignment) (sites : List ℕ) → Rises sys lattice order depth map
      → IsCopy sys depth (owner_of sys u) sites → length sites + room ≤ depth →
      leq order (at sys map u sites) (at sys map v sites) ≡ true

  -- a group raises what stands outside it
  pub group_raises : (n m s u a b v room : ℕ) → Stands sys lattice n (Enter s u a) → Raises a b room
      → Stands sys lattice m (Leave s b v) → Raises u v (room + 1)
  group_raises n m s u a b v room st inside st2 depth map sites rises copy fits =
      let deeper : IsCopy sys depth (owner_of sys a) (s ∷ sites) = copy_on sys depth (owner_of sys u)
      (owner_of sys a) s sites copy (entering sys lattice owned n s u a st) (omega arith) in
      let home : IsCopy sys depth (owner_of sys v) sites =
      subst (λ o. IsCopy sys depth o sites) (same_outer sys lattice owned n m s u a b v st st2) copy in
      let to_end : leq order (at sys map u sites) (at sys map b (s ∷ sites)) ≡ true =
      ordered.through (at sys map u sites) (at sys map a (s ∷ sites)) (at sys map b (s ∷ sites))
      (enters depth map n s u a sites rises st copy (omega arith))
      (inside depth map (s ∷ sites) rises deeper (omega arith)) in
      ordered.through (at sys map u sites) (at sys map b (s ∷ sites)) (at sys map v sites) to_end
      (leaves depth map m s b v sites rises st2 home (omega arith))

  mutual
    pub raises : (f u v : ℕ) (p : Matches sys lattice f u v) → Raises u v (depth_inside sys lattice f u v p)
    raises f u v (stay _ _ is) depth map sites rises copy fits =
        ordered.same (at sys map u sites) (rises.elements u (seen_from (owner_of sys u) sites))
    raises f u v (longer _ _ x _ m p) depth map sites rises copy fits =
        let same : owner_of sys u ≡ owner_of sys x =
        start_owner sys lattice f u x m ∙ sym (end_owner sys lattice f u x m) in
        ordered.through (at sys map u sites) (at sys map x sites) (at sys map v sites)
        (raises f u x m depth map sites rises copy (omega arith))
        (part_raises f x v p (end_owner sys lattice f u x m) depth map sites rises
        (subst (λ o. IsCopy sys depth o sites) same copy) (omega arith))

    part_raises : (f x v : ℕ) (p : Part sys lattice f x v) → owner_of sys x ≡ Function f
        → Raises x v (depth_of_part sys lattice f x v p)
    part_raises f x v (flow _ _ _ n st is) own depth map sites rises copy fits =
        rises.le n x v sites st (subst (λ o. IsCopy sys depth (either o (owner_of sys v)) sites) (sym own)
        (subst (λ o. IsCopy sys depth o sites) own copy))
    part_raises f x v (group _ _ a b _ s g n m st q st2 is) own depth map sites rises copy fits =
        group_raises n m s x a b v (depth_inside sys lattice g a b q) st
        (raises g a b q) st2 depth map sites rises copy fits

  -- a path that has no open call raises each copy of its end, at each depth that leaves room
  abbrev pub ForcesAll : ℕ → ℕ → ℕ → Type 0
  ForcesAll e v room =
      (depth : ℕ) (map : Assignment) (sites : List ℕ) → Rises sys lattice order depth map
      → IsCopy sys depth (owner_of sys v) sites → length sites + room ≤ depth →
      leq order e (at sys map v sites) ≡ true

  -- another raises one copy, at each depth that is no lower than its own
  abbrev ForcesOne : ℕ → ℕ → ℕ → List ℕ → Type 0
  ForcesOne e v least sites = (depth : ℕ) → least ≤ depth →
      IsCopy sys depth (owner_of sys v) sites
      × ((map : Assignment) → Rises sys lattice order depth map → leq order e (at sys map v sites) ≡ true)

  -- the copy has one site for each call that is open, or fewer
  abbrev Forced : (e v : ℕ) → Calling sys lattice e v → Type 0
  Forced e v c =
      (sites : List ℕ) × (length sites ≤ open_calls sys lattice e v c)
      × (length sites ≤ depth_calling sys lattice e v c) × ForcesOne e v (depth_calling sys lattice e v c) sites

  mutual
    pub forces : (e v : ℕ) (p : Returning sys lattice e v) → ForcesAll e v (depth_returning sys lattice e v p)
    forces e v (start _ n st) depth map sites rises copy fits = rises.const n e v sites st copy
    forces e v (flows u _ n p st) depth map sites rises copy fits =
        let from =
        flow_to sys depth (owner_of sys u) (owner_of sys v) sites (same_function sys lattice owned n u v st) copy in
        let same : at sys map v from.0 ≡ at sys map v sites = ap (map v) from.3 in
        let seen : at sys map u (seen_from (owner_of sys u) from.0) ≡ at sys map u from.0 =
        ap (map u) (seen_is sys depth (owner_of sys u) (seen_from (owner_of sys u) from.0) from.2) in
        ordered.through e (at sys map u from.0) (at sys map v sites)
        (subst (λ x. leq order e x ≡ true) seen
        (forces e u p depth map (seen_from (owner_of sys u) from.0) rises from.2 (omega (arith, from.4))))
        (subst (λ x. leq order (at sys map u from.0) x ≡ true) same (rises.le n u v from.0 st from.1))
    forces e v (returns u _ s n p st) depth map sites rises copy fits =
        let deeper = copy_on sys depth (owner_of sys v) (owner_of sys u) s sites copy
        (leaving sys lattice owned n s u v st) (omega arith) in
        ordered.through e (at sys map u (s ∷ sites)) (at sys map v sites)
        (forces e u p depth map (s ∷ sites) rises deeper (omega arith))
        (leaves depth map n s u v sites rises st copy (omega arith))
    forces e v (grouped u a b _ s g n m p st q st2) depth map sites rises copy fits =
        let home : IsCopy sys depth (owner_of sys u) sites =
        subst (λ o. IsCopy sys depth o sites) (sym (same_outer sys lattice owned n m s u a b v st st2)) copy in
        ordered.through e (at sys map u sites) (at sys map v sites)
        (forces e u p depth map sites rises home (omega arith))
        (group_raises n m s u a b v (depth_inside sys lattice g a b q) st
        (raises g a b q) st2 depth map sites rises home (omega arith))
    forces e v (anew _ c is) depth map sites rises copy fits =
        let before = forces_one e v c in
        let same : at sys map v before.0 ≡ at sys map v sites = rw is refl in
        subst (λ x. leq order e x ≡ true) same ((before.3 depth (omega arith)).1 map rises)

    forces_one : (e v : ℕ) (c : Calling sys lattice e v) → Forced e v c
    forces_one e v (calls u _ s n p st) = (
      s ∷ [],
      omega arith,
      omega arith,
      λ depth fits. (
        copy_on sys depth (owner_of sys u) (owner_of sys v) s [] (root sys depth (owner_of sys u))
            (entering sys lattice owned n s u v st) (omega arith),
        λ map rises. ordered.through e (at sys map u []) (at sys map v (s ∷ []))
            (forces e u p depth map [] rises (root sys depth (owner_of sys u)) (omega arith))
            (enters depth map n s u v [] rises st (root sys depth (owner_of sys u)) (omega arith)),
      ),
    )
    forces_one e v (calls_on u _ s n c st) =
        let before = forces_one e u c in
        let sites = before.0 in (
          s ∷ sites,
          omega (arith, before.1),
          omega (arith, before.2),
          λ depth fits.
              let one = before.3 depth (omega arith) in (
                copy_on sys depth (owner_of sys u) (owner_of sys v) s sites one.0
                    (entering sys lattice owned n s u v st) (omega (arith, before.2)),
                λ map rises. ordered.through e (at sys map u sites) (at sys map v (s ∷ sites)) (one.1 map rises)
                    (enters depth map n s u v sites rises st one.0 (omega (arith, before.2))),
              ),
        )
    forces_one e v (flows_on u _ n c st) =
        let before = forces_one e u c in
        let sites = before.0 in
        let shorter = seen_within (owner_of sys v) sites in (
          seen_from (owner_of sys v) sites,
          omega (arith, before.1, shorter),
          omega (arith, before.2, shorter),
          λ depth fits.
              let one = before.3 depth (omega arith) in
              let on = flow_from sys depth (owner_of sys u) (owner_of sys v) sites
              (same_function sys lattice owned n u v st) one.0 in (
                on.0,
                λ map rises. subst (λ x. leq order e x ≡ true) (ap (map v) (sym (seen_twice (owner_of sys v) sites)))
                    (ordered.through e (at sys map u sites) (at sys map v sites) (one.1 map rises)
                    (rises.le n u v sites st on.1)),
              ),
        )
    forces_one e v (grouped_on u a b _ s g n m c st q st2) =
        let before = forces_one e u c in
        let sites = before.0 in (
          sites,
          before.1,
          omega (arith, before.2),
          λ depth fits.
              let one = before.3 depth (omega arith) in (
                subst (λ o. IsCopy sys depth o sites) (same_outer sys lattice owned n m s u a b v st st2) one.0,
                λ map rises. ordered.through e (at sys map u sites) (at sys map v sites) (one.1 map rises)
                    (group_raises n m s u a b v (depth_inside sys lattice g a b q) st
                    (raises g a b q) st2 depth map sites rises one.0 (omega (arith, before.1))),
              ),
        )

-- each element that leads to a variable is forced on one of its copies
pub leads_force : LeadsForce
leads_force sys lattice order owned ordered e v (inl p) =
    let depth = depth_returning sys lattice e v p in
    record {
      depth = depth;
      sites = [];
      copy = root sys depth (owner_of sys v);
      above = λ map rises. forces sys lattice order owned ordered e v p depth map [] rises
          (root sys depth (owner_of sys v)) (omega arith);
    }
leads_force sys lattice order owned ordered e v (inr c) =
    let f = forces_one sys lattice order owned ordered e v c in
    let one = f.3 (depth_calling sys lattice e v c) (omega arith) in
    record { depth = depth_calling sys lattice e v c; sites = f.0; copy = one.0; above = one.1 }

-- a bound to which a constant not at or below it leads is exceeded
pub paths_refute : PathsRefute
paths_refute sys lattice order owned ordered e v n b lead stands over =
    let f = leads_force sys lattice order owned ordered e v lead in
    record {
      var = v;
      element = b;
      bound = stands;
      depth = f.depth;
      unmet = λ map rises keeps.
          let both = ordered.through e (at sys map v f.sites) b (f.above map rises) (keeps b v f.sites stands f.copy) in
          cc;
    }

-- at the depth of the path
pub refuted_at : (sys : System) (lattice : ℕ) (order : Order) (owned : IsWellOwned sys) (ordered : IsOrder order)
    (e v n b : ℕ) (lead : Lead sys lattice e v) (stands : Stands sys lattice n (Bound v lattice b))
    (over : leq order e b ≡ false)
    → (paths_refute sys lattice order owned ordered e v n b lead stands over).depth ≡ depth_of sys lattice e v lead
unfolding paths_refute leads_force
refuted_at sys lattice order owned ordered e v n b (inl p) stands over = refl
refuted_at sys lattice order owned ordered e v n b (inr c) stands over = refl

-- the law: a system with an exceeded bound is not accepted
pub exceeded_is_refuted : ExceededIsRefuted
exceeded_is_refuted sys lattice order n over accepted =
    let met = accepted over.depth in
    over.unmet met.0 met.1.rises (met.1.bound n)

-- in an accepted system each constant is at or below the bounds that it leads to
pub accepted_keeps_paths : AcceptedKeepsPaths
accepted_keeps_paths sys lattice order owned ordered accepted e v n b lead stands = by_test (leq order e b) refl
  where
    by_test : (t : Bool) → leq order e b ≡ t → leq order e b ≡ true
    by_test true is = is
    by_test false over =
        absurd (exceeded_is_refuted sys lattice order n
        (paths_refute sys lattice order owned ordered e v n b lead stands over) accepted)

module _ (sys : System) (more : List Constraint) where
  abbrev other : System
  other = record sys { constraints = more }

  strings : (owner : Owner) (sites : List ℕ) → IsCallString sys owner sites → IsCallString other owner sites
  strings owner [] is = is
  strings owner (s ∷ []) is =
      (is.0, record { it = is.1.it; there = is.1.there; outer_is = is.1.outer_is; inner_is = is.1.inner_is })
  strings owner (s ∷ r ∷ sites) is = (
    is.0,
    record { it = is.1.it; there = is.1.there; outer_is = is.1.outer_is; inner_is = is.1.inner_is },
    strings is.0 (r ∷ sites) is.2,
  )

  copies : (depth : ℕ) (owner : Owner) (sites : List ℕ) → IsCopy sys depth owner sites → IsCopy other depth owner sites
  copies depth Nobody sites is = is
  copies depth (Function f) sites is = (strings (Function f) sites is.0, is.1)

-- a system whose constraints another has too is accepted where that one is
pub more_is_harder : MoreIsHarder
more_is_harder sys more lattice order has accepted = λ depth.
    let met = accepted depth in (
      met.0,
      record {
        rises = record {
          elements = met.1.rises.elements;
          le = λ n u v sites st copy.
              let it = has n (Le u v) st in
              met.1.rises.le it.0 u v sites it.1
              (copies sys more depth (either (owner_of sys u) (owner_of sys v)) sites copy);
          const = λ n e v sites st copy.
              let it = has n (Const lattice e v) st in
              met.1.rises.const it.0 e v sites it.1 (copies sys more depth (owner_of sys v) sites copy);
          enter = λ n s u v site sites st there copy fits.
              let it = has n (Enter s u v) st in
              met.1.rises.enter it.0 s u v site sites it.1 there (copies sys more depth site.owner sites copy) fits;
          leave = λ n s u v site sites st there copy fits.
              let it = has n (Leave s u v) st in
              met.1.rises.leave it.0 s u v site sites it.1 there (copies sys more depth site.owner sites copy) fits;
        };
        bound = λ n e v sites st copy.
            let it = has n (Bound v lattice e) st in
            met.1.bound it.0 e v sites it.1 (copies sys more depth (owner_of sys v) sites copy);
      },
    )

-- a system without a constant is accepted, where the lattice has a bottom
pub no_constant_is_accepted : NoConstantIsAccepted
no_constant_is_accepted sys lattice order ordered names bottom within least none = λ depth. (
  λ v sites. bottom,
  record {
    rises = record {
      elements = λ v sites. within;
      le = λ n u v sites st copy. ordered.same bottom within;
      const = λ n e v sites st copy. absurd (none n e v st);
      enter = λ n s u v site sites st there copy fits. ordered.same bottom within;
      leave = λ n s u v site sites st there copy fits. ordered.same bottom within;
    };
    bound = λ n e v sites st copy. least e (names.bound n v e st);
  },
)

-- what one element for each variable meets, whatever the copy, is accepted
pub one_copy_serves : OneCopyServes
one_copy_serves sys lattice order one is = λ depth. (
  λ v sites. one v,
  record {
    rises = record {
      elements = λ v sites. is.elements v;
      le = λ n u v sites st copy. is.le n u v st;
      const = λ n e v sites st copy. is.const n e v st;
      enter = λ n s u v site sites st there copy fits. is.enter n s u v st;
      leave = λ n s u v site sites st there copy fits. is.leave n s u v st;
    };
    bound = λ n e v sites st copy. is.bound n v e st;
  },
)
