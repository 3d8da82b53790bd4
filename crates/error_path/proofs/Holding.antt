-- A path with its sub-paths is a path proof that holds, and its lines are 0.
use Rattle.std.proofs.Common.{◌≡◌, ℕ, zero, false, List, [], ◌∷◌, ◌++◌, slice_get, Option, Some, None, unwrap_or, suc, refl, sym, ap, subst, ◌⊎◌, inl, inr}
use Rattle.lattice_core.specs.Order.{Order, leq}
use Rattle.flow_graph.specs.declared.constraint.Link.TheVariants.{Const, Bound}
use Rattle.flow_graph.specs.declared.proof.PathStep.{PathStep}
use Rattle.flow_graph.specs.declared.proof.PathStep.TheVariants.{Take}
use Rattle.flow_graph.specs.System.{System, owner_of, Stands}
use Rattle.flow_graph.specs.PathProofs.{first_fault, main_fault, first_of, start_of, no_order}
use Rattle.flow_graph.specs.declared.phase.Phase.{Phase}
use Rattle.flow_graph.specs.declared.phase.Phase.TheVariants.{First, Second}
use Rattle.flow_graph.specs.Parts.{settled, Part, Flow, Empty, Full, Inside, Done, More, IsSub, AreSubs, None as NoSubs, Next, Goal, ToBound, Onward, Ends, There, Along, Back, Into, IsPath}
use Rattle.flow_laws.proofs.Exact.{subs_are_sub_paths}
use Rattle.flow_laws.proofs.Showing.{passes}
use Rattle.flow_laws.proofs.Walking.{seen}
use Rattle.error_path.specs.Shown.{HaveNoLines}

module _ (sys : System) (lattice : ℕ) (subs : List (List PathStep)) (elem bound : ℕ) where
  pub path_first : (steps : List PathStep) (path : IsPath sys lattice subs elem bound steps)
      → first_of steps ≡ Some (Take path.start 0)
  path_first steps path = ap first_of path.steps_are

  -- a path that a constant is not below
  pub path_holds : (orders : List Order) (order : Order) → slice_get orders lattice ≡ Some order
      → AreSubs sys lattice subs →
      ((v limit : ℕ) → Stands sys lattice bound (Bound v lattice limit) → leq order elem limit ≡ false)
      → (steps : List PathStep) (end : ℕ) →
      IsPath sys lattice subs elem bound steps → first_fault sys orders subs steps end ≡ None
  path_holds orders order there good over steps end path =
      let main : List PathStep = Take path.start 0 ∷ path.rest in
      let faultless = passes sys lattice subs bound order elem
      (subs_are_sub_paths sys lattice subs good) over path.start path.from path.rest end path.constant path.onward in
      let Begun : ℕ × ℕ → Type 0 = λ p. main_fault sys (unwrap_or (slice_get orders p.0) no_order) p.0 p.1 subs
      (Take path.start 0) path.rest end ≡ None in
      let Ordered : Option Order → Type 0 =
      λ o. main_fault sys (unwrap_or o no_order) lattice elem subs (Take path.start 0) path.rest end ≡ None in
      let Faultless : List PathStep → Type 0 = λ xs. first_fault sys orders subs xs end ≡ None in
      let begun : first_fault sys orders subs main end ≡ None =
      subst Begun (sym (ap start_of (seen sys lattice path.start (Const lattice elem path.from) path.constant)))
      (subst Ordered (sym there) faultless) in
      subst Faultless (sym path.steps_are) begun

-- the lines of a path are 0
module _ (sys : System) (lattice : ℕ) (subs : List (List PathStep)) where
  part_lines : (u v : ℕ) (front rest : List PathStep) → Part sys lattice subs u v front → HaveNoLines rest
      → HaveNoLines (front ++ rest)
  part_lines u v _ rest (Flow _ _ n st) more = (refl, more)
  part_lines u v _ rest (Empty _ a _ s n m st ts) more = (refl, (refl, more))
  part_lines u v _ rest (Full _ a b _ s n m k st is ts) more = (refl, (refl, (refl, more)))

  inside_lines : (f u v : ℕ) (steps : List PathStep) → Inside sys lattice subs f u v steps → HaveNoLines steps
  inside_lines f u _ _ (Done _) = tt
  inside_lines f u v _ (More _ x _ front rest part from to more) =
      part_lines u x front rest part (inside_lines f x v rest more)

  sub_lines : (u v : ℕ) (steps : List PathStep) → IsSub sys lattice subs u v steps → HaveNoLines steps
  sub_lines u v steps sub =
      subst HaveNoLines (sym sub.steps_are)
      (part_lines u sub.next sub.front sub.rest sub.part (inside_lines sub.function sub.next v sub.rest sub.more))

  pub onward_lines : (goal : Goal) (p : Phase) (u : ℕ) (steps : List PathStep) → Onward sys lattice subs goal p u steps
      → HaveNoLines steps
  onward_lines _ p u _ (Ends _ _ _ limit st) = (refl, tt)
  onward_lines _ p u _ (There _ _) = tt
  onward_lines goal p u _ (Along _ _ _ v front rest part more) =
      part_lines u v front rest part (onward_lines goal (settled (owner_of sys v) p) v rest more)
  onward_lines goal _ u _ (Back _ _ v t n rest st more) =
      (refl, onward_lines goal (settled (owner_of sys v) First) v rest more)
  onward_lines goal p u _ (Into _ _ _ v t n rest st more) =
      (refl, onward_lines goal (settled (owner_of sys v) Second) v rest more)

  pub path_lines : (elem bound : ℕ) (steps : List PathStep) → IsPath sys lattice subs elem bound steps
      → HaveNoLines steps
  path_lines elem bound steps path =
      subst HaveNoLines (sym path.steps_are) (refl, onward_lines (ToBound bound) _ path.from path.rest path.onward)

-- an item of a list with one more at its end is an item of the list, or the new one
push_get : (xs : List (List PathStep)) (y : List PathStep) (n : ℕ) (z : List PathStep)
    → slice_get (xs ++ y ∷ []) n ≡ Some z → (slice_get xs n ≡ Some z) ⊎ (y ≡ z)
push_get [] y zero z is = inr cc
push_get [] y (suc n) z is = absurd cc
push_get (x ∷ xs) y zero z is = inl is
push_get (x ∷ xs) y (suc n) z is = push_get xs y n z is

-- the steps of each of some sub-paths have no lines
pub subs_lines : (sys : System) (lattice : ℕ) (subs : List (List PathStep)) → AreSubs sys lattice subs
    → (n : ℕ) (steps : List PathStep) → slice_get subs n ≡ Some steps → HaveNoLines steps
subs_lines sys lattice _ NoSubs n steps is = absurd cc
subs_lines sys lattice _ (Next subs u v last before sub) n steps is = elim (push_get subs last n steps is) [
  | inl old ↦ subs_lines sys lattice subs before n steps old
  | inr new ↦ subst HaveNoLines new (sub_lines sys lattice subs u v last sub)
]
