-- Whether a path proof holds does not depend on its line numbers.
use Rattle.std.proofs.Common.{◌≡◌, ℕ, ◌-◌, ◌==◌, Bool, true, false, List, [], ◌∷◌, ◌++◌, length, map, slice_get, Option, Some, None, is_some, option_map, unwrap_or, refl, sym, ◌∙◌, ap, ap₂, cond}
use Rattle.std.proofs.lemmas.Option.{slice_get-map}
use Rattle.qual_base.proofs.Lists.{map_more, map_length}
use Rattle.lattice_core.specs.Order.{Order}
use Rattle.flow_graph.specs.declared.proof.PathStep.{PathStep}
use Rattle.flow_graph.specs.declared.proof.PathStep.TheVariants.{Take, Sub}
use Rattle.flow_graph.specs.declared.proof.Why.{Why}
use Rattle.flow_graph.specs.declared.proof.Why.TheVariants.{B1}
use Rattle.flow_graph.specs.declared.proof.BadStep.{BadStep}
use Rattle.flow_graph.specs.declared.step.Seen.{Seen}
use Rattle.flow_graph.specs.declared.step.Seen.TheVariants.{NoSub}
use Rattle.flow_graph.specs.declared.step.Path.{Path}
use Rattle.flow_graph.specs.declared.step.Path.TheVariants.{Main, Sub as Inside}
use Rattle.flow_graph.specs.System.{System}
use Rattle.flow_graph.specs.PathRules.{begins, ends, rule_at}
use Rattle.flow_graph.specs.PathProofs.{first_of, last_of, edge_at, of_step, span_of, through, look, in_path, fault_or, or_else, line_of, first_failing, home_of, owner_at, subs_fault, first_fault, start_of, no_order, main_fault, end_fault, ends_in_bound}
use Rattle.path_checker.specs.Grammar.{Written, by_constraint, by_sub_path, WrittenError}
use Rattle.report_laws.specs.Laws.{written, HoldsWithoutLines}

abbrev bare : Written → PathStep
bare (by_constraint n) = Take n 0
bare (by_sub_path n) = Sub n 0

-- without its line
abbrev plain : PathStep → PathStep
plain s = bare (written s)

abbrev all_plain : List PathStep → List PathStep
all_plain steps = map plain steps

first_map : (steps : List PathStep) → first_of (all_plain steps) ≡ option_map plain (first_of steps)
first_map [] = refl
first_map (s ∷ steps) = refl

-- the last step without its line is the last of the steps without theirs
last_map : (steps : List PathStep) → last_of (all_plain steps) ≡ option_map plain (last_of steps)
last_map steps =
    ap (λ (n : ℕ). slice_get (all_plain steps) (n - 1)) (map_length plain steps)
    ∙ slice_get-map plain steps (length steps - 1)

fails_alike : (why : Option Why) (l m : ℕ) (rest more : Option BadStep) → is_some rest ≡ is_some more
    → is_some (fault_or why l rest) ≡ is_some (fault_or why m more)
fails_alike (Some why) l m rest more same = refl
fails_alike None l m rest more same = same

-- of the first of two faults there is one exactly where there is one of two faults alike
either_alike : (a b c d : Option BadStep) → is_some a ≡ is_some b → is_some c ≡ is_some d
    → is_some (or_else a c) ≡ is_some (or_else b d)
either_alike (Some x) (Some y) c d one two = refl
either_alike (Some x) None c d one two = absurd cc
either_alike None (Some y) c d one two = absurd cc
either_alike None None c d one two = two

map_twice : (steps : List PathStep) → all_plain steps ≡ map bare (map written steps)
map_twice [] = refl
map_twice (s ∷ steps) = ap (λ xs. plain s ∷ xs) (map_twice steps)

all_twice : (subs : List (List PathStep)) → map all_plain subs ≡ map (map bare) (map (map written) subs)
all_twice [] = refl
all_twice (s ∷ subs) = ap₂ (λ (x : List PathStep) (xs : List (List PathStep)). x ∷ xs) (map_twice s) (all_twice subs)

is_none_of : (o : Option BadStep) → is_some o ≡ false → o ≡ None
is_none_of None is = refl
is_none_of (Some bad) is = absurd cc

module _ (sys : System) where
  edge_plain : (s : PathStep) → edge_at sys (plain s) ≡ edge_at sys s
  edge_plain (Take edge line) = refl
  edge_plain (Sub number line) = refl

  of_plain : (s : Option PathStep) (f : Seen → Option ℕ) → of_step sys (option_map plain s) f ≡ of_step sys s f
  of_plain None f = refl
  of_plain (Some s) f = ap f (edge_plain s)

  span_plain : (steps : Option (List PathStep)) → span_of sys (option_map all_plain steps) ≡ span_of sys steps
  span_plain None = refl
  span_plain (Some steps) =
      ap₂ through
      (ap (λ (s : Option PathStep). of_step sys s begins) (first_map steps) ∙ of_plain (first_of steps) begins)
      (ap (λ (s : Option PathStep). of_step sys s ends) (last_map steps) ∙ of_plain (last_of steps) ends)

  look_plain : (earlier : List (List PathStep)) (s : PathStep)
      → look sys (map all_plain earlier) (plain s) ≡ look sys earlier s
  look_plain earlier (Take edge line) = refl
  look_plain earlier (Sub number line) =
      ap (λ (seen : Seen). cond (number == 0) NoSub seen)
      (ap (span_of sys) (slice_get-map all_plain earlier (number - 1)) ∙ span_plain (slice_get earlier (number - 1)))

  looks_plain : (earlier : List (List PathStep)) (steps : List PathStep)
      → map (look sys (map all_plain earlier)) (all_plain steps) ≡ map (look sys earlier) steps
  looks_plain earlier [] = refl
  looks_plain earlier (s ∷ steps) =
      ap₂ (λ (x : Seen) (xs : List Seen). x ∷ xs) (look_plain earlier s) (looks_plain earlier steps)

  path_plain : (order : Order) (path : Path) (lattice elem : ℕ) (earlier : List (List PathStep)) (before : List Seen)
      (steps : List PathStep) →
      is_some (first_failing sys order path lattice elem (look sys (map all_plain earlier)) before (all_plain steps))
      ≡ is_some (first_failing sys order path lattice elem (look sys earlier) before steps)
  path_plain order path lattice elem earlier before [] = refl
  path_plain order path lattice elem earlier before (s ∷ steps) =
      let see = look sys earlier in
      let sees = look sys (map all_plain earlier) in
      ap₂ (λ (seen : Seen) (after : List Seen).
      is_some (fault_or (rule_at sys order (in_path sys path lattice elem before seen after)) (line_of (plain s))
      (first_failing sys order path lattice elem sees (seen ∷ before) (all_plain steps))))
      (look_plain earlier s) (looks_plain earlier steps)
      ∙ fails_alike (rule_at sys order (in_path sys path lattice elem before (see s) (map see steps)))
      (line_of (plain s)) (line_of s)
      (first_failing sys order path lattice elem sees (see s ∷ before) (all_plain steps))
      (first_failing sys order path lattice elem see (see s ∷ before) steps)
      (path_plain order path lattice elem earlier (see s ∷ before) steps)

  home_plain : (steps : List PathStep) → home_of sys (all_plain steps) ≡ home_of sys steps
  home_plain steps =
      ap (owner_at sys)
      (ap (λ (s : Option PathStep). of_step sys s begins) (first_map steps) ∙ of_plain (first_of steps) begins)

  subs_plain : (order : Order) (lattice elem : ℕ) (earlier subs : List (List PathStep)) →
      is_some (subs_fault sys order lattice elem (map all_plain earlier) (map all_plain subs))
      ≡ is_some (subs_fault sys order lattice elem earlier subs)
  subs_plain order lattice elem earlier [] = refl
  subs_plain order lattice elem earlier (s ∷ subs) =
      either_alike
      (first_failing sys order (Inside (home_of sys (all_plain s))) lattice elem (look sys (map all_plain earlier)) []
      (all_plain s))
      (first_failing sys order (Inside (home_of sys s)) lattice elem (look sys earlier) [] s)
      (subs_fault sys order lattice elem (map all_plain earlier ++ all_plain s ∷ []) (map all_plain subs))
      (subs_fault sys order lattice elem (earlier ++ s ∷ []) subs)
      (ap (λ home. is_some (first_failing sys order (Inside home) lattice elem (look sys (map all_plain earlier)) []
      (all_plain s))) (home_plain s)
      ∙ path_plain order (Inside (home_of sys s)) lattice elem earlier [] s)
      (ap (λ (es : List (List PathStep)). is_some (subs_fault sys order lattice elem es (map all_plain subs)))
      (sym (map_more all_plain earlier (s ∷ [])))
      ∙ subs_plain order lattice elem (earlier ++ s ∷ []) subs)

  bound_plain : (s : Option PathStep) → ends_in_bound sys (option_map plain s) ≡ ends_in_bound sys s
  bound_plain None = refl
  bound_plain (Some (Take edge line)) = refl
  bound_plain (Some (Sub number line)) = refl

  ends_alike : (b : Bool) (x y : BadStep) → is_some (cond b None (Some x)) ≡ is_some (cond b None (Some y))
  ends_alike true x y = refl
  ends_alike false x y = refl

  end_plain : (main : List PathStep) (end last : ℕ)
      → is_some (end_fault sys (all_plain main) end) ≡ is_some (end_fault sys main last)
  end_plain main end last =
      let here : BadStep = record { line = end; why = B1 } in
      let there : BadStep = record { line = last; why = B1 } in
      ap (λ (b : Bool). is_some (cond {A = Option BadStep} b None (Some here)))
      (ap (ends_in_bound sys) (last_map main) ∙ bound_plain (last_of main))
      ∙ ends_alike (ends_in_bound sys (last_of main)) here there

  start_plain : (order : Order) (lattice elem : ℕ) (subs : List (List PathStep)) (first : PathStep)
      (main : List PathStep) (end last : ℕ) →
      is_some (main_fault sys order lattice elem (map all_plain subs) (plain first) (all_plain main) end)
      ≡ is_some (main_fault sys order lattice elem subs first main last)
  start_plain order lattice elem subs first main end last =
      either_alike _ _ _ _
      (ap₂ (λ (seen : Seen) (after : List Seen). is_some
      (fault_or (rule_at sys order (in_path sys Main lattice elem [] seen after)) (line_of (plain first)) None))
      (look_plain subs first) (looks_plain subs main)
      ∙ fails_alike (rule_at sys order (in_path sys Main lattice elem [] (look sys subs first)
      (map (look sys subs) main))) (line_of (plain first)) (line_of first) None None refl)
      (either_alike _ _ _ _ (subs_plain order lattice elem [] subs)
      (either_alike _ _ _ _ (path_plain order Main lattice elem subs [] (first ∷ main))
      (end_plain (first ∷ main) end last)))

  proof_plain : (orders : List Order) (subs : List (List PathStep)) (main : List PathStep) (end last : ℕ) →
      is_some (first_fault sys orders (map all_plain subs) (all_plain main) end)
      ≡ is_some (first_fault sys orders subs main last)
  proof_plain orders subs [] end last = refl
  proof_plain orders subs (first ∷ main) end last =
      let start = start_of (edge_at sys first) in
      ap (λ (seen : Seen). is_some (main_fault sys (unwrap_or (slice_get orders (start_of seen).0) no_order)
      (start_of seen).0 (start_of seen).1 (map all_plain subs) (plain first) (all_plain main) end)) (edge_plain first)
      ∙ start_plain (unwrap_or (slice_get orders start.0) no_order) start.0 start.1 subs first main end last

  abbrev blame : List Order → List (List Written) → List Written → Bool
  blame orders subs main = is_some (first_fault sys orders (map (map bare) subs) (map bare main) 0)

  proof_blame : (orders : List Order) (subs : List (List PathStep)) (main : List PathStep) (end : ℕ) →
      is_some (first_fault sys orders subs main end) ≡ blame orders (map (map written) subs) (map written main)
  proof_blame orders subs main end =
      sym (proof_plain orders subs main 0 end)
      ∙ ap₂ (λ (ss : List (List PathStep)) (ms : List PathStep). is_some (first_fault sys orders ss ms 0))
      (all_twice subs) (map_twice main)

  -- proofs that are alike but for their lines hold alike
  holds_alike : (orders : List Order) (subs others : List (List PathStep)) (main other : List PathStep) (end last : ℕ)
      → map (map written) subs ≡ map (map written) others →
      map written main ≡ map written other → first_fault sys orders subs main end ≡ None
      → first_fault sys orders others other last ≡ None
  holds_alike orders subs others main other end last same alike none =
      is_none_of (first_fault sys orders others other last)
      (proof_blame orders others other last ∙ sym (ap₂ (blame orders) same alike)
      ∙ sym (proof_blame orders subs main end) ∙ ap is_some none)

-- whether a path proof holds does not depend on its lines
pub holds_without_lines : HoldsWithoutLines
holds_without_lines sys orders one other same holds =
    holds_alike sys orders one.subs other.subs one.main other.main one.end other.end
    (ap (λ (e : WrittenError). e.subs) same) (ap (λ (e : WrittenError). e.main) same) holds
