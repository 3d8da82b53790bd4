-- The first fault of a path, as it is looked for, is that of the definitions.
use Rattle.std.proofs.Common.{◌≡◌, ℕ, Bool, true, false, ◌||◌, List, [], ◌∷◌, ◌++◌, Option, None, Some, map, if◌then◌else◌, refl, sym, ◌∙◌, ap}
use Rattle.std.proofs.lemmas.Bool.{or_right, or_left}
use Rattle.qual_base.specs.declared.places.Owner.{Owner}
use Rattle.lattice_core.specs.View.{LatticeView}
use Rattle.flow_graph.specs.declared.proof.PathStep.{PathStep}
use Rattle.flow_graph.specs.declared.proof.BadStep.{BadStep}
use Rattle.flow_graph.specs.declared.proof.Why.TheVariants.{B1}
use Rattle.flow_graph.specs.declared.step.Seen.{Seen}
use Rattle.flow_graph.specs.declared.step.Path.{Path}
use Rattle.flow_graph.specs.declared.step.Path.TheVariants.{Main, Sub}
use Rattle.flow_graph.specs.declared.step.StepInPath.{StepInPath}
use Rattle.flow_graph.specs.System.{System}
use Rattle.flow_graph.specs.PathRules.{fails_b1, follows_bound, is_bound, is_headless, is_late_const, is_late_return, is_loose_sub, is_stray_bound}
use Rattle.flow_graph.specs.PathRules.{is_unknown, is_unmatched_in_sub, rule_at}
use Rattle.flow_graph.specs.PathProofs.{end_fault, fault_or, first_failing, home_of, line_of, look, main_fault, no_order, or_else, in_path, subs_fault}
use Rattle.flow_graph.specs.Walks.{first_failing_walk, walk_end_fault, walk_fault, walk_rule_at}
use Rattle.path_checker.specs.Orders.{order_at}
use Rattle.path_checker.specs.Walks.{behind, faults_for, subs_faults_for}
use Rattle.path_checker.specs.Start.{start_fault}

-- over lattices
pub same_path : (sys : System) (lattices : List LatticeView) (path : Path) (lattice elem : ℕ) (see : PathStep → Seen)
    (before : List Seen)
    (steps : List PathStep) → faults_for sys (Some lattices) path lattice elem see before steps
    ≡ first_failing sys (order_at lattices lattice) path lattice elem see before steps
same_path sys lattices path lattice elem see before [] = refl
same_path sys lattices path lattice elem see before (s ∷ steps) =
    ap (fault_or (rule_at sys (order_at lattices lattice)
    (in_path sys path lattice elem before (see s) (map see steps))) (line_of s))
    (same_path sys lattices path lattice elem see (see s ∷ before) steps)

-- over lattices the fault of sub-paths that is looked for is that of the definition in the lattice's order
pub same_subs : (sys : System) (lattices : List LatticeView) (lattice elem : ℕ) (earlier subs : List (List PathStep)) →
    subs_faults_for sys (Some lattices) lattice elem earlier subs
    ≡ subs_fault sys (order_at lattices lattice) lattice elem earlier subs
same_subs sys lattices lattice elem earlier [] = refl
same_subs sys lattices lattice elem earlier (s ∷ subs) =
    ap (λ a. or_else a (subs_faults_for sys (Some lattices) lattice elem (earlier ++ s ∷ []) subs))
    (same_path sys lattices (Sub (home_of sys s)) lattice elem (look sys earlier) [] s)
    ∙ ap
    (or_else (first_failing sys (order_at lattices lattice) (Sub (home_of sys s)) lattice elem (look sys earlier) [] s))
    (same_subs sys lattices lattice elem (earlier ++ s ∷ []) subs)

-- of a walk
pub same_walk : (sys : System) (lattice : ℕ) (see : PathStep → Seen) (before : List Seen) (steps : List PathStep) →
    faults_for sys None Main lattice 0 see before steps ≡ first_failing_walk sys lattice see before steps
same_walk sys lattice see before [] = refl
same_walk sys lattice see before (s ∷ steps) =
    ap (fault_or (walk_rule_at sys (in_path sys Main lattice 0 before (see s) (map see steps))) (line_of s))
    (same_walk sys lattice see (see s ∷ before) steps)

-- in a sub-path a bound fails B1 in any case
is_stray : (p : StepInPath) (home : Owner) → p.path ≡ Sub home → is_bound p.step ≡ true → is_stray_bound p ≡ true
unfolding is_stray_bound
is_stray p home is e = rw e (rw is refl)

fails : (p : StepInPath) (home : Owner) → p.path ≡ Sub home → is_bound p.step ≡ true → fails_b1 p ≡ true
unfolding fails_b1
fails p home is e =
    let front = is_unknown p.step || is_headless p || is_late_const p in
    let stray = front || is_stray_bound p in
    let late = stray || is_late_return p in
    let unmatched = late || is_unmatched_in_sub p in
    or_left (unmatched || is_loose_sub p) (follows_bound p)
    (or_left unmatched (is_loose_sub p)
    (or_left late (is_unmatched_in_sub p)
    (or_left stray (is_late_return p) (or_right front (is_stray_bound p) (is_stray p home is e)))))

stray_rule : (sys : System) (p : StepInPath) → fails_b1 p ≡ true → Some B1 ≡ rule_at sys no_order p
unfolding rule_at
stray_rule sys p is = rw is refl

-- at a step of a sub-path the rules of a walk are those of a path in no order
sub_rule : (sys : System) (home : Owner) (p : StepInPath) → p.path ≡ Sub home
    → walk_rule_at sys p ≡ rule_at sys no_order p
sub_rule sys home p is = by_bound (is_bound p.step) refl
  where
    by_bound : (b : Bool) → is_bound p.step ≡ b
        → (if b then Some B1 else rule_at sys no_order p) ≡ rule_at sys no_order p
    by_bound false e = refl
    by_bound true e = stray_rule sys p (fails p home is e)

-- the fault of a walk's sub-paths that is looked for is that of the definition in no order
pub same_walk_subs : (sys : System) (lattice : ℕ) (earlier subs : List (List PathStep)) →
    subs_faults_for sys None lattice 0 earlier subs ≡ subs_fault sys no_order lattice 0 earlier subs
same_walk_subs sys lattice earlier [] = refl
same_walk_subs sys lattice earlier (s ∷ subs) =
    ap (λ a. or_else a (subs_faults_for sys None lattice 0 (earlier ++ s ∷ []) subs)) (inside (look sys earlier) [] s)
    ∙ ap (or_else (first_failing sys no_order (Sub (home_of sys s)) lattice 0 (look sys earlier) [] s))
    (same_walk_subs sys lattice (earlier ++ s ∷ []) subs)
  where
    inside : (see : PathStep → Seen) (before : List Seen) (steps : List PathStep)
        → faults_for sys None (Sub (home_of sys s)) lattice 0 see before steps
        ≡ first_failing sys no_order (Sub (home_of sys s)) lattice 0 see before steps
    inside see before [] = refl
    inside see before (t ∷ steps) =
        let p = in_path sys (Sub (home_of sys s)) lattice 0 before (see t) (map see steps) in
        ap (λ why.
        fault_or why (line_of t) (faults_for sys None (Sub (home_of sys s)) lattice 0 see (see t ∷ before) steps))
        (sub_rule sys (home_of sys s) p refl)
        ∙ ap (fault_or (rule_at sys no_order p) (line_of t)) (inside see (see t ∷ before) steps)

-- the parts of a walk's first fault
pub walk_parts : (sys : System) (lattice from to : ℕ) (subs : List (List PathStep)) (steps : List PathStep) (end : ℕ) →
    or_else (subs_faults_for sys None lattice 0 [] subs)
    (or_else (faults_for sys None Main lattice 0 (look sys subs) (behind lattice (Some from)) steps)
    (walk_end_fault sys from to steps end))
    ≡ walk_fault sys lattice from to subs steps end
walk_parts sys lattice from to subs steps end =
    ap (λ a. or_else a (or_else (faults_for sys None Main lattice 0 (look sys subs) (behind lattice (Some from)) steps)
    (walk_end_fault sys from to steps end)))
    (same_walk_subs sys lattice [] subs)
    ∙ ap (λ a. or_else (subs_fault sys no_order lattice 0 [] subs) (or_else a (walk_end_fault sys from to steps end)))
    (same_walk sys lattice (look sys subs) (behind lattice (Some from)) steps)

-- and of the first fault of a path proof, behind its first step
pub main_parts : (sys : System) (lattices : List LatticeView) (lattice elem : ℕ) (subs : List (List PathStep))
    (first : PathStep) (rest : List PathStep)
    (end : ℕ) → or_else (start_fault sys (order_at lattices lattice) lattice elem subs first rest)
    (or_else (subs_faults_for sys (Some lattices) lattice elem [] subs)
    (or_else (faults_for sys (Some lattices) Main lattice elem (look sys subs) [] (first ∷ rest))
    (end_fault sys (first ∷ rest) end)))
    ≡ main_fault sys (order_at lattices lattice) lattice elem subs first rest end
main_parts sys lattices lattice elem subs first rest end =
    ap (λ a. or_else (start_fault sys (order_at lattices lattice) lattice elem subs first rest)
    (or_else a (or_else (faults_for sys (Some lattices) Main lattice elem (look sys subs) [] (first ∷ rest))
    (end_fault sys (first ∷ rest) end))))
    (same_subs sys lattices lattice elem [] subs)
    ∙ ap (λ a. or_else (start_fault sys (order_at lattices lattice) lattice elem subs first rest)
    (or_else (subs_fault sys (order_at lattices lattice) lattice elem [] subs)
    (or_else a (end_fault sys (first ∷ rest) end))))
    (same_path sys lattices Main lattice elem (look sys subs) [] (first ∷ rest))

-- the first of three that may be there
pub first_is : (a b : Option BadStep) (f : BadStep) → a ≡ Some f → Some f ≡ or_else a b
first_is a b f is = sym (ap (λ x. or_else x b) is)

pub second_is : (a b c : Option BadStep) → a ≡ None → c ≡ b → c ≡ or_else a b
second_is a b c none is = is ∙ sym (ap (λ x. or_else x b) none)
