-- A walk that is made of parts fails no rule.
use Rattle.std.proofs.Common.{◌≡◌, ℕ, ◌-◌, Bool, true, false, List, [], ◌∷◌, ◌++◌, map, length, slice_get, Option, Some, None, if◌then◌else◌, suc, arith, eq-eqb, refl, sym, ◌∙◌, ap, subst}
use Rattle.flow_graph.specs.declared.constraint.Link.{Link}
use Rattle.flow_graph.specs.declared.constraint.Link.TheVariants.{Le, Const, Enter, Leave}
use Rattle.flow_graph.specs.declared.proof.PathStep.{PathStep}
use Rattle.flow_graph.specs.declared.proof.PathStep.TheVariants.{Take, Sub}
use Rattle.flow_graph.specs.declared.proof.BadStep.{BadStep}
use Rattle.flow_graph.specs.declared.proof.Why.{Why}
use Rattle.flow_graph.specs.declared.proof.Why.TheVariants.{B1, B2}
use Rattle.flow_graph.specs.declared.phase.Phase.{Phase}
use Rattle.flow_graph.specs.declared.phase.Phase.TheVariants.{First, Second}
use Rattle.flow_graph.specs.declared.step.Seen.{Seen}
use Rattle.flow_graph.specs.declared.step.Seen.TheVariants.{Edge, Through}
use Rattle.flow_graph.specs.declared.step.Path.TheVariants.{Main}
use Rattle.flow_graph.specs.System.{System, owner_of, Stands}
use Rattle.flow_graph.specs.PathRules.{agree, ends, is_bound, is_bound_link, link_ends, rule_at}
use Rattle.flow_graph.specs.PathProofs.{edge_at, edge_or, fault_or, first_failing, last_of, line_of, look, no_order, or_else, in_path, subs_fault}
use Rattle.flow_graph.specs.Parts.{settled, Part, Flow, Empty, Full, AreSubs, Onward, ToVariable, There, Along, Back, Into}
use Rattle.flow_graph.specs.Walks.{IsWalk, constant_to, first_failing_walk, no_span, walk_end_fault, walk_ends, walk_rule_at}
use Rattle.walk_laws.specs.Laws.{WalkShown}
use Rattle.flow_laws.proofs.Exact.{subs_are_sub_paths}
use Rattle.flow_laws.proofs.Showing.{subs_pass}
use Rattle.flow_laws.proofs.Walking.{seen, call_const, follows_const, onward_passes, quiet_and, Settles}

-- the last of two items and more is the last of those behind the first
last_more : {A : Type 0} (x y : A) (zs : List A) → last_of (x ∷ y ∷ zs) ≡ last_of (y ∷ zs)
last_more x y zs =
    let steps : length (x ∷ y ∷ zs) - 1 ≡ suc (length (y ∷ zs) - 1) = omega arith in
    ap (slice_get (x ∷ y ∷ zs)) steps

module _ (sys : System) (lattice : ℕ) (subs : List (List PathStep)) (to : ℕ) where
  -- none of these steps takes a bound
  abbrev AreUnbound : List PathStep → Type 0
  AreUnbound [] = Unit {0}
  AreUnbound (s ∷ steps) = (is_bound (look sys subs s) ≡ false) × AreUnbound steps

  unbound : (n : ℕ) (link : Link) (st : Stands sys lattice n link) → is_bound (Edge st.constraint) ≡ false
      → is_bound (look sys subs (Take n 0)) ≡ false
  unbound n link st is = ap (λ c. is_bound (edge_or c)) st.there ∙ is

  by_link : (n : ℕ) (link : Link) (st : Stands sys lattice n link) → is_bound_link link ≡ false
      → is_bound (look sys subs (Take n 0)) ≡ false
  by_link n link st is = unbound n link st (ap is_bound_link st.link_is ∙ is)

  part_unbound : (u v : ℕ) (front rest : List PathStep) → Part sys lattice subs u v front → AreUnbound rest
      → AreUnbound (front ++ rest)
  part_unbound u v _ rest (Flow _ _ n st) more = (by_link n (Le u v) st refl, more)
  part_unbound u v _ rest (Empty _ a _ s n m st ts) more =
      (by_link n (Enter s u a) st refl, (by_link m (Leave s a v) ts refl, more))
  part_unbound u v _ rest (Full _ a b _ s n m k st is ts) more =
      (by_link n (Enter s u a) st refl, (ap is_bound is, (by_link m (Leave s b v) ts refl, more)))

  onward_unbound : (p : Phase) (u : ℕ) (steps : List PathStep) → Onward sys lattice subs (ToVariable to) p u steps
      → AreUnbound steps
  onward_unbound p u _ (There _ _) = tt
  onward_unbound p u _ (Along _ _ _ v front rest part more) =
      part_unbound u v front rest part (onward_unbound (settled (owner_of sys v) p) v rest more)
  onward_unbound _ u _ (Back _ _ v s n rest st more) =
      (by_link n (Leave s u v) st refl, onward_unbound (settled (owner_of sys v) First) v rest more)
  onward_unbound p u _ (Into _ _ _ v s n rest st more) =
      (by_link n (Enter s u v) st refl, onward_unbound (settled (owner_of sys v) Second) v rest more)

  -- where no step takes a bound, a walk's rules are those of a path in which nothing is at or below anything
  same_faults : (before : List Seen) (steps : List PathStep) → AreUnbound steps →
      first_failing_walk sys lattice (look sys subs) before steps
      ≡ first_failing sys no_order Main lattice 0 (look sys subs) before steps
  same_faults before [] none = refl
  same_faults before (s ∷ steps) (is, none) =
      let p = in_path sys Main lattice 0 before (look sys subs s) (map (look sys subs) steps) in
      let rest = first_failing_walk sys lattice (look sys subs) (look sys subs s ∷ before) steps in
      ap (λ b. fault_or (if b then Some B1 else rule_at sys no_order p) (line_of s) rest) is
      ∙ ap (fault_or (rule_at sys no_order p) (line_of s)) (same_faults (look sys subs s ∷ before) steps none)

  -- where the last of some steps behind a variable ends
  abbrev Arrived : ℕ → List PathStep → Type 0
  Arrived u steps = walk_ends sys u (last_of steps) ≡ Some to

  ends_at : (n : ℕ) (link : Link) (st : Stands sys lattice n link)
      → ends (edge_at sys (Take n 0)) ≡ Some (link_ends link)
  ends_at n link st = ap ends (seen sys lattice n link st)

  -- a step that ends at a variable in front of steps behind that variable
  arrived_more : (u x : ℕ) (s : PathStep) (rest : List PathStep) → ends (edge_at sys s) ≡ Some x → Arrived x rest
      → Arrived u (s ∷ rest)
  arrived_more u x s [] is there = is ∙ there
  arrived_more u x s (t ∷ rest) is there = ap (walk_ends sys u) (last_more s t rest) ∙ arrived_same t rest there
    where
      -- with a step, it does not matter where the steps begin
      by_last : (last : Option PathStep) → ((t : PathStep) × (last ≡ Some t)) → walk_ends sys x last ≡ Some to
          → walk_ends sys u last ≡ Some to
      by_last None (t, e) there = absurd cc
      by_last (Some t) some there = there

      arrived_same : (t : PathStep) (rest : List PathStep) → Arrived x (t ∷ rest)
          → walk_ends sys u (last_of (t ∷ rest)) ≡ Some to
      arrived_same t [] there = there
      arrived_same t (v ∷ rest) there =
          ap (walk_ends sys u) (last_more t v rest)
          ∙ arrived_same v rest (sym (ap (walk_ends sys x) (last_more t v rest)) ∙ there)

  over_any : (u : ℕ) (s t : PathStep) (rest : List PathStep) → Arrived u (t ∷ rest) → Arrived u (s ∷ t ∷ rest)
  over_any u s t rest there = ap (walk_ends sys u) (last_more s t rest) ∙ there

  part_arrived : (u v : ℕ) (front rest : List PathStep) → Part sys lattice subs u v front → Arrived v rest
      → Arrived u (front ++ rest)
  part_arrived u v _ rest (Flow _ _ n st) there = arrived_more u v (Take n 0) rest (ends_at n (Le u v) st) there
  part_arrived u v _ rest (Empty _ a _ s n m st ts) there =
      over_any u (Take n 0) (Take m 0) rest (arrived_more u v (Take m 0) rest (ends_at m (Leave s a v) ts) there)
  part_arrived u v _ rest (Full _ a b _ s n m k st is ts) there =
      over_any u (Take n 0) (Sub k 0) (Take m 0 ∷ rest)
      (over_any u (Sub k 0) (Take m 0) rest (arrived_more u v (Take m 0) rest (ends_at m (Leave s b v) ts) there))

  arrived : (p : Phase) (u : ℕ) (steps : List PathStep) → Onward sys lattice subs (ToVariable to) p u steps
      → Arrived u steps
  arrived p u _ (There _ _) = refl
  arrived p u _ (Along _ _ _ v front rest part more) =
      part_arrived u v front rest part (arrived (settled (owner_of sys v) p) v rest more)
  arrived _ u _ (Back _ _ v s n rest st more) =
      arrived_more u v (Take n 0) rest (ends_at n (Leave s u v) st)
      (arrived (settled (owner_of sys v) First) v rest more)
  arrived p u _ (Into _ _ _ v s n rest st more) =
      arrived_more u v (Take n 0) rest (ends_at n (Enter s u v) st)
      (arrived (settled (owner_of sys v) Second) v rest more)

or_both : (a b : Option BadStep) → a ≡ None → b ≡ None → or_else a b ≡ None
or_both a b first second = ap (λ x. or_else x b) first ∙ second

-- no step of a walk with its sub-paths fails a rule, and it ends at its last variable
pub walk_shown : WalkShown
walk_shown sys lattice from to end subs steps are walk =
    let first = Edge (constant_to lattice from) in
    let settles : Settles sys no_order lattice 0 subs (settled (owner_of sys from) First) (first ∷ []) =
    λ is after. call_const sys no_order Main lattice 0 [] after lattice 0 from 0 no_span
    ∙ quiet_and sys no_order Main lattice 0 _ _ refl in
    let passes : first_failing sys no_order Main lattice 0 (look sys subs) (first ∷ []) steps ≡ None =
    onward_passes sys no_order lattice 0 subs (ToVariable to) tt
    (settled (owner_of sys from) First) from steps walk (first ∷ [])
    (follows_const sys no_order Main lattice 0 lattice 0 from 0 no_span) settles in
    let ends_well : walk_end_fault sys from to steps end ≡ None =
    ap (λ last. if agree last (Some to) then None else Some (record { line = end; why = B2 }))
    (arrived sys lattice subs to (settled (owner_of sys from) First) from steps walk)
    ∙ ap (λ b. if b then None else Some (record { line = end; why = B2 })) (eq-eqb to to refl) in
    or_both _ _ (subs_pass sys no_order lattice 0 subs (subs_are_sub_paths sys lattice subs are))
    (or_both _ _ (same_faults sys lattice subs to (first ∷ []) steps
    (onward_unbound sys lattice subs to (settled (owner_of sys from) First) from steps walk) ∙ passes) ends_well)
