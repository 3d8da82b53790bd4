-- The steps of a path proof that holds name constraints and earlier sub-paths.
use Rattle.std.proofs.Common.{◌≡◌, ℕ, ◌+◌, ◌-◌, ◌^◌, ◌<◌, ◌≤◌, ◌==◌, Bool, true, false, List, [], ◌∷◌, ◌++◌, length, map, slice_get, Option, Some, None, refl, arith, cond, length-append}
use Rattle.std.proofs.lemmas.Option.{slice_get_within}
use Rattle.lattice_core.specs.Order.{Order}
use Rattle.flow_graph.specs.declared.constraint.Constraint.{Constraint}
use Rattle.flow_graph.specs.declared.proof.PathStep.{PathStep}
use Rattle.flow_graph.specs.declared.proof.PathStep.TheVariants.{Take, Sub}
use Rattle.flow_graph.specs.declared.proof.Why.{Why}
use Rattle.flow_graph.specs.declared.proof.BadStep.{BadStep}
use Rattle.flow_graph.specs.declared.step.Seen.{Seen}
use Rattle.flow_graph.specs.declared.step.Seen.TheVariants.{NoSub}
use Rattle.flow_graph.specs.declared.step.Path.{Path}
use Rattle.flow_graph.specs.declared.step.Path.TheVariants.{Main, Sub as Inside}
use Rattle.flow_graph.specs.System.{System}
use Rattle.flow_graph.specs.PathRules.{rule_at, is_unknown, is_missing}
use Rattle.flow_graph.specs.PathProofs.{edge_or, edge_at, span_of, look, in_path, fault_or, or_else, line_of, first_failing, home_of, subs_fault, first_fault, start_of}
use Rattle.flow_laws.proofs.Clear.{clear}

-- a step names a constraint, or a number of a sub-path that is not too great to be read
abbrev pub IsKnown : System → PathStep → Type 0
IsKnown sys (Take edge line) = (c : Constraint) × (slice_get sys.constraints edge ≡ Some c)
IsKnown sys (Sub number line) = number < 2 ^ 32 - 1

abbrev pub AllKnown : System → List PathStep → Type 0
AllKnown sys [] = Unit {0}
AllKnown sys (s ∷ steps) = IsKnown sys s × AllKnown sys steps

abbrev pub SubsKnown : System → List (List PathStep) → Type 0
SubsKnown sys [] = Unit {0}
SubsKnown sys (s ∷ subs) = AllKnown sys s × SubsKnown sys subs

none_of_two : (a b : Option BadStep) → or_else a b ≡ None → (a ≡ None) × (b ≡ None)
none_of_two (Some bad) b is = absurd cc
none_of_two None b is = (refl, is)

no_rule : (why : Option Why) (line : ℕ) (rest : Option BadStep) → fault_or why line rest ≡ None
    → (why ≡ None) × (rest ≡ None)
no_rule (Some why) line rest is = absurd cc
no_rule None line rest is = (refl, is)

module _ (sys : System) where
  edge_known : (c : Option Constraint) → is_unknown (edge_or c) ≡ false → (it : Constraint) × (c ≡ Some it)
  edge_known None known = absurd cc
  edge_known (Some c) known = (c, refl)

  sub_there : (earlier : List (List PathStep)) (k : ℕ) (steps : Option (List PathStep)) → slice_get earlier k ≡ steps
      → is_missing (span_of sys steps) ≡ false → k < length earlier
  sub_there earlier k None is there = absurd cc
  sub_there earlier k (Some steps) is there = slice_get_within earlier k steps is

  sub_known : (earlier : List (List PathStep)) (number : ℕ) (b : Bool) → (number == 0) ≡ b
      → is_missing (cond b NoSub (span_of sys (slice_get earlier (number - 1)))) ≡ false → number ≤ length earlier
  sub_known earlier number true is there = absurd cc
  sub_known earlier number false is there =
      let below = sub_there earlier (number - 1) (slice_get earlier (number - 1)) refl there in omega (arith, below)

  step_known : (earlier : List (List PathStep)) → length earlier < 2 ^ 32 - 1 → (s : PathStep)
      → is_unknown (look sys earlier s) ≡ false → is_missing (look sys earlier s) ≡ false → IsKnown sys s
  step_known earlier few (Take edge line) known there = edge_known (slice_get sys.constraints edge) known
  step_known earlier few (Sub number line) known there =
      let below = sub_known earlier number (number == 0) refl there in omega (arith, below, few)

  path_known : (order : Order) (path : Path) (lattice elem : ℕ) (earlier : List (List PathStep))
      → length earlier < 2 ^ 32 - 1 → (before : List Seen) (steps : List PathStep) →
      first_failing sys order path lattice elem (look sys earlier) before steps ≡ None → AllKnown sys steps
  path_known order path lattice elem earlier few before [] none = tt
  path_known order path lattice elem earlier few before (s ∷ steps) none =
      let see = look sys earlier in
      let here = in_path sys path lattice elem before (see s) (map see steps) in
      let parts = no_rule (rule_at sys order here) (line_of s)
      (first_failing sys order path lattice elem see (see s ∷ before) steps) none in
      let rules = clear sys order here parts.0 in (
        step_known earlier few s rules.known rules.there,
        path_known order path lattice elem earlier few (see s ∷ before) steps parts.1,
      )

  subs_known : (order : Order) (lattice elem : ℕ) (earlier subs : List (List PathStep))
      → length earlier + length subs < 2 ^ 32 - 1 → subs_fault sys order lattice elem earlier subs ≡ None
      → SubsKnown sys subs
  subs_known order lattice elem earlier [] few none = tt
  subs_known order lattice elem earlier (s ∷ subs) few none =
      let parts = none_of_two (first_failing sys order (Inside (home_of sys s)) lattice elem (look sys earlier) [] s)
      (subs_fault sys order lattice elem (earlier ++ s ∷ []) subs) none in
      let longer : length (earlier ++ s ∷ []) + length subs < 2 ^ 32 - 1 = let more = length-append earlier (s ∷ []) in
      omega (arith, more, few) in (
        path_known order (Inside (home_of sys s)) lattice elem earlier (omega (arith, few)) [] s parts.0,
        subs_known order lattice elem (earlier ++ s ∷ []) subs longer parts.1,
      )

  pub proof_known : (orders : List Order) (subs : List (List PathStep)) (main : List PathStep) (end : ℕ)
      → length subs < 2 ^ 32 - 1 → first_fault sys orders subs main end ≡ None →
      SubsKnown sys subs × AllKnown sys main
  proof_known orders subs [] end few none = absurd cc
  proof_known orders subs (first ∷ main) end few none =
      let start = start_of (edge_at sys first) in
      let one = none_of_two _ _ none in
      let two = none_of_two _ _ one.1 in
      let three = none_of_two _ _ two.1 in (
        subs_known _ start.0 start.1 [] subs (omega (arith, few)) two.0,
        path_known _ Main start.0 start.1 subs few [] (first ∷ main) three.0,
      )
