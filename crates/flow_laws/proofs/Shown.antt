-- A path proof whose sub-paths are sub-paths, and whose main path leads over its bound, holds.
use Rattle.std.proofs.Common.{◌≡◌, ℕ, Bool, true, false, List, [], ◌∷◌, map, Option, Some, None, option_map, unwrap_or, refl, sym, ◌∙◌, ap, subst, slice_get, if◌then◌else◌}
use Rattle.lattice_core.specs.Order.{Order}
use Rattle.flow_graph.specs.declared.constraint.Link.TheVariants.{Const}
use Rattle.flow_graph.specs.declared.proof.PathStep.{PathStep}
use Rattle.flow_graph.specs.declared.proof.PathStep.TheVariants.{Take, Sub as SubStep}
use Rattle.flow_graph.specs.declared.proof.BadStep.{BadStep}
use Rattle.flow_graph.specs.declared.proof.Why.TheVariants.{B1}
use Rattle.flow_graph.specs.declared.step.Path.TheVariants.{Main}
use Rattle.flow_graph.specs.System.{System}
use Rattle.flow_graph.specs.PathProofs.{last_of, edge_at, start_of, ends_in_bound, end_fault, line_of, main_fault, first_fault, no_order, steps_of}
use Rattle.flow_laws.specs.PathForms.{without_line, without_lines, LeadsOver, ShownHolds}
use Rattle.flow_laws.proofs.Runs.{no_fault, nothing}
use Rattle.flow_laws.proofs.Erasing.{both_none, both_pass, edge_same, last_map, rule_same, failing_same, subs_same}
use Rattle.flow_laws.proofs.Walking.{seen}
use Rattle.flow_laws.proofs.Showing.{passes}

-- whether a last step is a bound does not depend on its line
bound_same : (sys : System) (o : Option PathStep) → ends_in_bound sys (option_map without_line o) ≡ ends_in_bound sys o
bound_same sys (Some (Take n line)) = refl
bound_same sys (Some (SubStep n line)) = refl
bound_same sys None = refl

by_test : (b : Bool) (one other : BadStep) → (if b then None else Some one) ≡ None
    → (if b then None else Some other) ≡ None
by_test true one other e = refl
by_test false one other e = absurd cc

-- a main path that has no fault at its end without lines has none with them
end_same : (sys : System) (main : List PathStep) (end other : ℕ) → end_fault sys (without_lines main) other ≡ None
    → end_fault sys main end ≡ None
end_same sys main end other e =
    let at : ℕ → BadStep = λ line. record { line = line; why = B1 } in
    let Ends : Bool → Type 0 = λ b. (if b then None else Some (at other)) ≡ None in
    by_test (ends_in_bound sys (last_of main)) (at other) (at end)
    (subst Ends (ap (ends_in_bound sys) (last_map without_line main) ∙ bound_same sys (last_of main)) e)

module _ (sys : System) (order : Order) (lattice elem : ℕ) where
  main_same : (subs : List (List PathStep)) (first : PathStep) (main : List PathStep) (end other : ℕ) →
      main_fault sys order lattice elem (map without_lines subs) (without_line first) (without_lines main) other ≡ None
      → main_fault sys order lattice elem subs first main end ≡ None
  main_same subs first main end other e =
      let head = nothing _ _ e in
      let of_subs = nothing _ _ head.1 in
      let of_main = nothing _ _ of_subs.1 in
      let rule = no_fault _ (line_of (without_line first)) None head.0 in
      both_none _ _ (both_pass sys order lattice elem _ (line_of first) None
      (sym (rule_same sys order lattice elem subs Main [] first main) ∙ rule.0) refl)
      (both_none _ _ (subs_same sys order lattice elem [] subs of_subs.0)
      (both_none _ _ (failing_same sys order lattice elem subs Main [] (first ∷ main) of_main.0)
      (end_same sys (first ∷ main) end other of_main.1)))

head_is : {x y : PathStep} {xs ys : List PathStep} → x ∷ xs ≡ y ∷ ys → x ≡ y
head_is e = cc

rest_is : {x y : PathStep} {xs ys : List PathStep} → x ∷ xs ≡ y ∷ ys → xs ≡ ys
rest_is e = cc

-- whatever the order of the lattice
pub form_holds : (sys : System) (orders : List Order) (lattice : ℕ) (subs : List (List PathStep))
    (main : List PathStep) (end : ℕ) →
    LeadsOver sys lattice (unwrap_or (slice_get orders lattice) no_order) (map without_lines subs) (without_lines main)
    → first_fault sys orders subs main end ≡ None
form_holds sys orders lattice subs [] end shown =
    absurd (let wrong : [] ≡ Take shown.path.start 0 ∷ shown.path.rest = shown.path.steps_are in cc)
form_holds sys orders lattice subs (first ∷ main) end shown =
    let path = shown.path in
    let elem = shown.element in
    let order = unwrap_or (slice_get orders lattice) no_order in
    let first_is : without_line first ≡ Take path.start 0 = head_is path.steps_are in
    let main_is : without_lines main ≡ path.rest = rest_is path.steps_are in
    let named = map without_lines subs in
    let First : PathStep → Type 0 = λ s. main_fault sys order lattice elem named s (without_lines main) end ≡ None in
    let Main : List PathStep → Type 0 =
    λ xs. main_fault sys order lattice elem named (Take path.start 0) xs end ≡ None in
    let faultless = passes sys lattice named shown.bound order elem shown.sub_paths shown.over path.start path.from
    path.rest end path.constant path.onward in
    let starts : start_of (edge_at sys first) ≡ (lattice, elem) =
    ap start_of (sym (edge_same sys first)) ∙ ap (λ s. start_of (edge_at sys s)) first_is
    ∙ ap start_of (seen sys lattice path.start (Const lattice elem path.from) path.constant) in
    let Begun : ℕ × ℕ → Type 0 =
    λ p. main_fault sys (unwrap_or (slice_get orders p.0) no_order) p.0 p.1 subs first main end ≡ None in
    subst Begun (sym starts) (main_same sys order lattice elem subs first main end end
    (subst First (sym first_is) (subst Main (sym main_is) faultless)))

-- a path proof of the right form in a lattice of the list holds
pub shown_holds : ShownHolds
shown_holds sys orders proof shows =
    let Ordered : Order → Type 0 = λ order. LeadsOver sys shows.lattice order
    (map without_lines (steps_of proof.subs.items)) (without_lines proof.main.items) in
    let same : unwrap_or (slice_get orders shows.lattice) no_order ≡ shows.order = rw shows.there refl in
    form_holds sys orders shows.lattice (steps_of proof.subs.items) proof.main.items proof.end
    (subst Ordered (sym same) shows.shown)
