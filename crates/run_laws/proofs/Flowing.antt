-- Where the links of a flow list hold, so does the order of the trees.
use Rattle.std.proofs.Common.{◌≡◌, ℕ, zero, suc, Bool, true, false, not, List, [], ◌∷◌, ◌++◌, Option, Some, refl, subst, ◌∙◌, ap, inl, inr}
use Rattle.std.specs.Prelude.{unwrap_or}
use Rattle.std.proofs.lemmas.Option.{none-some}
use Rattle.qual_base.specs.declared.places.Owner.{Owner}
use Rattle.qual_base.specs.declared.places.Owner.TheVariants.{Nobody}
use Rattle.lattice_core.specs.Order.{Order, IsOrder, leq}
use Rattle.flow_graph.specs.declared.constraint.Link.{Link}
use Rattle.flow_graph.specs.declared.constraint.Link.TheVariants.{Le}
use Rattle.qual_types.specs.declared.look.Kind.{Kind}
use Rattle.qual_types.specs.Skel.{Skel, flat, ref, fun, Skels, no_skels, more_skels, nodes, param_at}
use Rattle.flow_rules.specs.declared.arrow.Arrow.{Arrow}
use Rattle.flow_rules.specs.Lists.{pair, both, pair_some, both_some, extra, tie, tied, equal_uneven, equal, equals, flow, flows}
use Rattle.flow_rules.specs.Owners.{IsIn}
use Rattle.run_laws.specs.Shapes.{Belongs, AllBelong, IsEven, IsAlike, AreEven, HasNoFun, MayDiffer}
use Rattle.run_laws.specs.Programs.{AllAre}
use Rattle.run_laws.proofs.Types.{Tree, leaf, cell, arrow, more_trees, read, kept, reads, join, join_same, Goes, Subs, AllSubs, turn}

pub front : (is : Link → Type 0) (xs ys : List Link) → AllAre is (xs ++ ys) → AllAre is xs
front is [] ys h = tt
front is (x ∷ xs) ys h = (h.0, front is xs ys h.1)

pub back : (is : Link → Type 0) (xs ys : List Link) → AllAre is (xs ++ ys) → AllAre is ys
back is [] ys h = h
back is (x ∷ xs) ys h = back is xs ys h.1

some_is : (q s : Skel) → Some q ≡ Some s → q ≡ s
some_is q s is = ap (λ o. unwrap_or o q) is

module _ (order : Order) (ordered : IsOrder order) (by : Arrow) (is : Link → Type 0) (ea eb : ℕ → ℕ) (loose : Bool)
    (one : (forward : Bool) (u v : ℕ) → AllAre is (pair by forward u v) → Goes order forward (ea u) (eb v))
    (odd_right : (forward : Bool) (u v : ℕ) (k : Kind) (b : Skel) → MayDiffer loose b
    → AllAre is (equal_uneven by forward (flat u k) (ref v b)) → leaf (ea u) ≡ join (eb v) (kept eb b))
    (odd_left : (forward : Bool) (u v : ℕ) (l : Kind) (a : Skel) → MayDiffer loose a
    → AllAre is (equal_uneven by forward (ref u a) (flat v l)) → join (ea u) (kept ea a) ≡ leaf (eb v)) where
  same : (forward : Bool) (u v : ℕ) → AllAre is (both by forward u v) → ea u ≡ eb v
  same true u v h =
      ordered.apart (ea u) (eb v) (one true u v (front is (pair by true u v) (pair by false u v) h))
      (one false u v (back is (pair by true u v) (pair by false u v) h))
  same false u v h =
      ordered.apart (ea u) (eb v) (one true u v (back is (pair by false u v) (pair by true u v) h))
      (one false u v (front is (pair by false u v) (pair by true u v) h))

  mutual
    equal_reads : (forward : Bool) (a b : Skel) → IsEven loose a b → AllAre is (equal by forward a b)
        → read ea a ≡ read eb b
    equal_reads forward (flat u k) (flat v l) even h = ap (λ q. leaf q) (same forward u v h)
    equal_reads forward (flat u k) (ref v b) even h = absurd even
    equal_reads forward (flat u k) (fun v qs s f) even h = absurd even
    equal_reads forward (ref u a) (flat v l) even h = absurd even
    equal_reads forward (ref u a) (ref v b) even h =
        let first : ea u ≡ eb v = same forward u v (front is (both by forward u v) (equal by forward a b) h) in
        let rest : kept ea a ≡ kept eb b =
        equal_kept forward a b even (back is (both by forward u v) (equal by forward a b) h) in
        ap (λ q. cell q (kept ea a)) first ∙ ap (λ t. cell (eb v) t) rest
    equal_reads forward (ref u a) (fun v qs s f) even h = absurd even
    equal_reads forward (fun u ps r e) b even h = absurd even

    equal_kept : (forward : Bool) (a b : Skel) → IsAlike loose a b → AllAre is (equal by forward a b)
        → kept ea a ≡ kept eb b
    equal_kept forward (flat u k) (flat v l) even h = ap (λ q. leaf q) (same forward u v h)
    equal_kept forward (flat u k) (ref v b) even h = odd_right forward u v k b even h
    equal_kept forward (flat u k) (fun v qs s f) even h = absurd even
    equal_kept forward (ref u a) (flat v l) even h = odd_left forward u v l a even h
    equal_kept forward (ref u a) (ref v b) even h =
        let first : ea u ≡ eb v = same forward u v (front is (both by forward u v) (equal by forward a b) h) in
        let rest : kept ea a ≡ kept eb b =
        equal_kept forward a b even (back is (both by forward u v) (equal by forward a b) h) in
        ap (λ q. join q (kept ea a)) first ∙ ap (λ t. join (eb v) t) rest
    equal_kept forward (ref u a) (fun v qs s f) even h = absurd even
    equal_kept forward (fun u ps r e) (flat v l) even h = absurd even
    equal_kept forward (fun u ps r e) (ref v b) even h = absurd even
    equal_kept forward (fun u ps r e) (fun v qs s f) even h =
        let l1 = both by forward u v in
        let l2 = equals by forward ps qs in
        let l3 = extra by forward ps e qs f in
        let l4 = equal by forward r s in
        let l5 = both_some by forward e f in
        let t1 : AllAre is (l2 ++ (l3 ++ (l4 ++ l5))) = back is l1 (l2 ++ (l3 ++ (l4 ++ l5))) h in
        let t2 : AllAre is (l3 ++ (l4 ++ l5)) = back is l2 (l3 ++ (l4 ++ l5)) t1 in
        let t3 : AllAre is (l4 ++ l5) = back is l3 (l4 ++ l5) t2 in
        let first : ea u ≡ eb v = same forward u v (front is l1 (l2 ++ (l3 ++ (l4 ++ l5))) h) in
        let middle : reads ea ps ≡ reads eb qs = equals_read forward ps qs even.0 (front is l2 (l3 ++ (l4 ++ l5)) t1) in
        let last : read ea r ≡ read eb s = equal_reads forward r s even.1 (front is l4 l5 t3) in
        ap (λ q. arrow q (reads ea ps) (read ea r)) first
        ∙ (ap (λ ts. arrow (eb v) ts (read ea r)) middle ∙ ap (λ t. arrow (eb v) (reads eb qs) t) last)

    equals_read : (forward : Bool) (ps qs : Skels) → AreEven loose ps qs → AllAre is (equals by forward ps qs)
        → reads ea ps ≡ reads eb qs
    equals_read forward no_skels no_skels even h = refl
    equals_read forward no_skels (more_skels q qs) even h = absurd even
    equals_read forward (more_skels p ps) no_skels even h = absurd even
    equals_read forward (more_skels p ps) (more_skels q qs) even h =
        let first : read ea p ≡ read eb q =
        equal_reads forward p q even.0 (front is (equal by forward p q) (equals by forward ps qs) h) in
        let rest : reads ea ps ≡ reads eb qs =
        equals_read forward ps qs even.1 (back is (equal by forward p q) (equals by forward ps qs) h) in
        ap (λ t. more_trees t (reads ea ps)) first ∙ ap (λ ts. more_trees (read eb q) ts) rest

  pub flow_subs : (forward : Bool) (a b : Skel) → IsEven loose a b → AllAre is (flow by forward a b)
      → Subs order forward (read ea a) (read eb b)
  flow_subs forward (flat u k) (flat v l) even h = one forward u v h
  flow_subs forward (flat u k) (ref v b) even h = absurd even
  flow_subs forward (flat u k) (fun v qs s f) even h = absurd even
  flow_subs forward (ref u a) (flat v l) even h = absurd even
  flow_subs forward (ref u a) (ref v b) even h = (
    one forward u v (front is (pair by forward u v) (equal by forward a b) h),
    equal_kept forward a b even (back is (pair by forward u v) (equal by forward a b) h),
  )
  flow_subs forward (ref u a) (fun v qs s f) even h = absurd even
  flow_subs forward (fun u ps r e) b even h = absurd even

  flows_subs : (forward : Bool) (ps qs : Skels) → AreEven loose ps qs → AllAre is (flows by forward ps qs)
      → AllSubs order forward (reads ea ps) (reads eb qs)
  flows_subs forward no_skels no_skels even h = tt
  flows_subs forward no_skels (more_skels q qs) even h = absurd even
  flows_subs forward (more_skels p ps) no_skels even h = absurd even
  flows_subs forward (more_skels p ps) (more_skels q qs) even h = (
    flow_subs forward p q even.0 (front is (flow by forward p q) (flows by forward ps qs) h),
    flows_subs forward ps qs even.1 (back is (flow by forward p q) (flows by forward ps qs) h),
  )

  -- of a function into another
  pub fun_subs : (forward : Bool) (u v : ℕ) (ps qs : Skels) (r s : Skel) (e f : Option ℕ)
      → AreEven loose ps qs × IsEven loose r s →
      AllAre is (flow by forward (fun u ps r e) (fun v qs s f))
      → Subs order forward (kept ea (fun u ps r e)) (kept eb (fun v qs s f))
  fun_subs forward u v ps qs r s e f even h =
      let l1 = pair by forward u v in
      let l2 = flows by (not forward) ps qs in
      let l3 = extra by forward ps e qs f in
      let l4 = flow by forward r s in
      let l5 = pair_some by (not forward) e f in
      let t1 : AllAre is (l2 ++ (l3 ++ (l4 ++ l5))) = back is l1 (l2 ++ (l3 ++ (l4 ++ l5))) h in
      let t2 : AllAre is (l3 ++ (l4 ++ l5)) = back is l2 (l3 ++ (l4 ++ l5)) t1 in
      let t3 : AllAre is (l4 ++ l5) = back is l3 (l4 ++ l5) t2 in (
        one forward u v (front is l1 (l2 ++ (l3 ++ (l4 ++ l5))) h),
        flows_subs (not forward) ps qs even.0 (front is l2 (l3 ++ (l4 ++ l5)) t1),
        flow_subs forward r s even.1 (front is l4 l5 t3),
      )

-- Where each variable of a skeleton is tied to one, the skeleton is all of one element.
module _ (order : Order) (ordered : IsOrder order) (is : Link → Type 0) (el : ℕ → ℕ)
    (one : (u v : ℕ) → is (Le u v) → leq order (el u) (el v) ≡ true) where
  all_tied : (s : Skel) (v : ℕ) → HasNoFun s → AllAre is (tied (nodes s) v) → kept el s ≡ leaf (el v)
  unfolding tie
  all_tied (flat u k) v none h = ap (λ q. leaf q) (ordered.apart (el u) (el v) (one u v h.0) (one v u h.1.0))
  all_tied (ref u s) v none h =
      let first : el u ≡ el v = ordered.apart (el u) (el v) (one u v h.0) (one v u h.1.0) in
      ap (λ t. join (el u) t) (all_tied s v none h.1.1) ∙ (ap (λ q. join q (leaf (el v))) first ∙ join_same (el v))
  all_tied (fun u ps r e) v none h = absurd none

  pub odd : (u v : ℕ) (s : Skel) → HasNoFun s → el u ≡ el v → AllAre is (tied (nodes s) v)
      → join (el u) (kept el s) ≡ leaf (el v)
  odd u v s none same h =
      ap (λ t. join (el u) t) (all_tied s v none h) ∙ (ap (λ q. join q (leaf (el v))) same ∙ join_same (el v))

-- the parameters of two functions that are below each other, the one's into the other's
pub record IsParam (order : Order) (el : ℕ → ℕ) (ps : Skels) (k : ℕ) (t : Tree) : Type 0 where
  pub skel : Skel
  pub there : param_at ps k ≡ Some skel
  pub below : Subs order true t (read el skel)

-- where parameters of one function are below those of another, the k-th of the other is below the k-th of it
pub params_sub : (order : Order) (ea eb : ℕ → ℕ) (ps qs : Skels) (k : ℕ) (s : Skel)
    → AllSubs order false (reads ea ps) (reads eb qs) → param_at qs k ≡ Some s →
    IsParam order ea ps k (read eb s)
params_sub order ea eb no_skels no_skels k s h is = absurd (none-some s is)
params_sub order ea eb no_skels (more_skels q qs) k s h is = absurd h
params_sub order ea eb (more_skels p ps) no_skels k s h is = absurd h
params_sub order ea eb (more_skels p ps) (more_skels q qs) zero s h is = record {
  skel = p;
  there = refl;
  below = subst (λ x. Subs order true (read eb x) (read ea p)) (some_is q s is)
      (turn order false (read ea p) (read eb q) h.0);
}
params_sub order ea eb (more_skels p ps) (more_skels q qs) (suc k) s h is =
    let found = params_sub order ea eb ps qs k s h.1 is in
    record { skel = found.skel; there = found.there; below = found.below }

nobodys : (own : ℕ → Owner) (v : ℕ) → IsIn own Nobody v → own v ≡ Nobody
nobodys own v (inl h) = h
nobodys own v (inr h) = h

-- Under two readings that agree on what belongs to nobody, a skeleton of nobody's variables is the same.
mutual
  pub nobodys_read : (own : ℕ → Owner) (ea eb : ℕ → ℕ) (s : Skel) → ((v : ℕ) → own v ≡ Nobody → ea v ≡ eb v)
      → Belongs own Nobody s → read ea s ≡ read eb s
  nobodys_read own ea eb (flat v k) agree h = ap (λ q. leaf q) (agree v (nobodys own v h))
  nobodys_read own ea eb (ref v s) agree h =
      ap (λ q. cell q (kept ea s)) (agree v (nobodys own v h.0))
      ∙ ap (λ t. cell (eb v) t) (nobodys_kept own ea eb s agree h.1)
  nobodys_read own ea eb (fun v ps r e) agree h =
      ap (λ q. arrow q (reads ea ps) (read ea r)) (agree v (nobodys own v h.0))
      ∙ (ap (λ ts. arrow (eb v) ts (read ea r)) (all_nobodys_read own ea eb ps agree h.1)
      ∙ ap (λ t. arrow (eb v) (reads eb ps) t) (nobodys_read own ea eb r agree h.2))

  pub nobodys_kept : (own : ℕ → Owner) (ea eb : ℕ → ℕ) (s : Skel) → ((v : ℕ) → own v ≡ Nobody → ea v ≡ eb v)
      → Belongs own Nobody s → kept ea s ≡ kept eb s
  nobodys_kept own ea eb (flat v k) agree h = ap (λ q. leaf q) (agree v (nobodys own v h))
  nobodys_kept own ea eb (ref v s) agree h =
      ap (λ q. join q (kept ea s)) (agree v (nobodys own v h.0))
      ∙ ap (λ t. join (eb v) t) (nobodys_kept own ea eb s agree h.1)
  nobodys_kept own ea eb (fun v ps r e) agree h =
      ap (λ q. arrow q (reads ea ps) (read ea r)) (agree v (nobodys own v h.0))
      ∙ (ap (λ ts. arrow (eb v) ts (read ea r)) (all_nobodys_read own ea eb ps agree h.1)
      ∙ ap (λ t. arrow (eb v) (reads eb ps) t) (nobodys_read own ea eb r agree h.2))

  all_nobodys_read : (own : ℕ → Owner) (ea eb : ℕ → ℕ) (ps : Skels) → ((v : ℕ) → own v ≡ Nobody → ea v ≡ eb v)
      → AllBelong own Nobody ps → reads ea ps ≡ reads eb ps
  all_nobodys_read own ea eb no_skels agree h = refl
  all_nobodys_read own ea eb (more_skels s ss) agree h =
      ap (λ t. more_trees t (reads ea ss)) (nobodys_read own ea eb s agree h.0)
      ∙ ap (λ ts. more_trees (read eb s) ts) (all_nobodys_read own ea eb ss agree h.1)
