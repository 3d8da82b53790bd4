-- What fails in a path proof does not depend on the lines that its steps were read from.
use Rattle.std.proofs.Common.{◌≡◌, ℕ, ◌-◌, ◌==◌, List, [], ◌∷◌, ◌++◌, length, map, Option, Some, None, option_map, refl, sym, ◌∙◌, ap, subst, slice_get, if◌then◌else◌}
use Rattle.std.proofs.lemmas.Option.{slice_get-map}
use Rattle.qual_base.proofs.Lists.{map_more, map_length}
use Rattle.lattice_core.specs.Order.{Order}
use Rattle.flow_graph.specs.declared.proof.PathStep.{PathStep}
use Rattle.flow_graph.specs.declared.proof.PathStep.TheVariants.{Take, Sub as SubStep}
use Rattle.flow_graph.specs.declared.proof.BadStep.{BadStep}
use Rattle.flow_graph.specs.declared.proof.Why.{Why}
use Rattle.flow_graph.specs.declared.step.Seen.{Seen}
use Rattle.flow_graph.specs.declared.step.Seen.TheVariants.{NoSub}
use Rattle.flow_graph.specs.declared.step.Path.{Path}
use Rattle.flow_graph.specs.declared.step.Path.TheVariants.{Sub}
use Rattle.flow_graph.specs.System.{System}
use Rattle.flow_graph.specs.PathRules.{begins, ends, rule_at}
use Rattle.flow_graph.specs.PathProofs.{first_of, last_of, of_step, edge_at, through, span_of, look, owner_at, home_of, first_failing, in_path, fault_or, line_of, or_else, subs_fault}
use Rattle.flow_laws.specs.PathForms.{without_line, without_lines}
use Rattle.flow_laws.proofs.Runs.{no_fault, nothing}

pub both_none : (a b : Option BadStep) → a ≡ None → b ≡ None → or_else a b ≡ None
both_none a b first second = ap (λ x. or_else x b) first ∙ second

pub last_map : {A B : Type 0} (f : A → B) (xs : List A) → last_of (map f xs) ≡ option_map f (last_of xs)
last_map f xs = ap (λ n. slice_get (map f xs) (n - 1)) (map_length f xs) ∙ slice_get-map f xs (length xs - 1)

first_map : {A B : Type 0} (f : A → B) (xs : List A) → first_of (map f xs) ≡ option_map f (first_of xs)
first_map f [] = refl
first_map f (x ∷ xs) = refl

pub edge_same : (sys : System) (s : PathStep) → edge_at sys (without_line s) ≡ edge_at sys s
edge_same sys (Take n line) = refl
edge_same sys (SubStep n line) = refl

step_same : (sys : System) (o : Option PathStep) (f : Seen → Option ℕ)
    → of_step sys (option_map without_line o) f ≡ of_step sys o f
step_same sys (Some s) f = ap f (edge_same sys s)
step_same sys None f = refl

first_same : (sys : System) (steps : List PathStep) (f : Seen → Option ℕ)
    → of_step sys (first_of (without_lines steps)) f ≡ of_step sys (first_of steps) f
first_same sys steps f = ap (λ o. of_step sys o f) (first_map without_line steps) ∙ step_same sys (first_of steps) f

last_same : (sys : System) (steps : List PathStep) (f : Seen → Option ℕ)
    → of_step sys (last_of (without_lines steps)) f ≡ of_step sys (last_of steps) f
last_same sys steps f = ap (λ o. of_step sys o f) (last_map without_line steps) ∙ step_same sys (last_of steps) f

-- a path without its lines spans what it spans with them
pub span_same : (sys : System) (steps : List PathStep)
    → span_of sys (Some (without_lines steps)) ≡ span_of sys (Some steps)
span_same sys steps =
    ap (λ x. through x (of_step sys (last_of (without_lines steps)) ends)) (first_same sys steps begins)
    ∙ ap (through (of_step sys (first_of steps) begins)) (last_same sys steps ends)

span_of_same : (sys : System) (o : Option (List PathStep)) → span_of sys (option_map without_lines o) ≡ span_of sys o
span_of_same sys (Some steps) = span_same sys steps
span_of_same sys None = refl

-- a step without its line names what it names with it, among sub-paths without lines
pub look_same : (sys : System) (subs : List (List PathStep)) (s : PathStep)
    → look sys (map without_lines subs) (without_line s) ≡ look sys subs s
look_same sys subs (Take n line) = refl
look_same sys subs (SubStep n line) =
    ap (λ x. if n == 0 then NoSub else x)
    (ap (span_of sys) (slice_get-map without_lines subs (n - 1)) ∙ span_of_same sys (slice_get subs (n - 1)))

home_same : (sys : System) (steps : List PathStep) → home_of sys (without_lines steps) ≡ home_of sys steps
home_same sys steps = ap (owner_at sys) (first_same sys steps begins)

module _ (sys : System) (order : Order) (lattice elem : ℕ) where
  seen_same : (subs : List (List PathStep)) (steps : List PathStep)
      → map (look sys (map without_lines subs)) (without_lines steps) ≡ map (look sys subs) steps
  seen_same subs [] = refl
  seen_same subs (s ∷ steps) =
      ap (λ x. x ∷ map (look sys (map without_lines subs)) (without_lines steps)) (look_same sys subs s)
      ∙ ap (λ xs. look sys subs s ∷ xs) (seen_same subs steps)

  -- what a step fails, its line aside
  abbrev fails_at : Path → List Seen → Seen → List Seen → Option Why
  fails_at path before step after = rule_at sys order (in_path sys path lattice elem before step after)

  pub both_pass : (why : Option Why) (line : ℕ) (rest : Option BadStep) → why ≡ None → rest ≡ None
      → fault_or why line rest ≡ None
  both_pass why line rest first second = ap (λ w. fault_or w line rest) first ∙ second

  pub rule_same : (subs : List (List PathStep)) (path : Path) (before : List Seen) (s : PathStep)
      (steps : List PathStep) →
      fails_at path before (look sys (map without_lines subs) (without_line s))
      (map (look sys (map without_lines subs)) (without_lines steps))
      ≡ fails_at path before (look sys subs s) (map (look sys subs) steps)
  rule_same subs path before s steps =
      ap (λ x. fails_at path before x (map (look sys (map without_lines subs)) (without_lines steps)))
      (look_same sys subs s)
      ∙ ap (fails_at path before (look sys subs s)) (seen_same subs steps)

  pub failing_same : (subs : List (List PathStep)) (path : Path) (before : List Seen) (steps : List PathStep) →
      first_failing sys order path lattice elem (look sys (map without_lines subs)) before (without_lines steps) ≡ None
      → first_failing sys order path lattice elem (look sys subs) before steps ≡ None
  failing_same subs path before [] e = refl
  failing_same subs path before (s ∷ steps) e =
      let parts = no_fault _ (line_of (without_line s)) _ e in
      let Rest : Seen → Type 0 = λ x. first_failing sys order path lattice elem (look sys (map without_lines subs))
      (x ∷ before) (without_lines steps) ≡ None in
      both_pass _ (line_of s) _ (sym (rule_same subs path before s steps) ∙ parts.0)
      (failing_same subs path (look sys subs s ∷ before) steps (subst Rest (look_same sys subs s) parts.1))

  pub subs_same : (earlier subs : List (List PathStep))
      → subs_fault sys order lattice elem (map without_lines earlier) (map without_lines subs) ≡ None →
      subs_fault sys order lattice elem earlier subs ≡ None
  subs_same earlier [] e = refl
  subs_same earlier (s ∷ subs) e =
      let parts = nothing _ _ e in
      let Home : Path → Type 0 =
      λ p. first_failing sys order p lattice elem (look sys (map without_lines earlier)) [] (without_lines s) ≡ None in
      let Earlier : List (List PathStep) → Type 0 =
      λ xs. subs_fault sys order lattice elem xs (map without_lines subs) ≡ None in
      both_none _ _
      (failing_same earlier (Sub (home_of sys s)) [] s (subst Home (ap (λ o. Sub o) (home_same sys s)) parts.0))
      (subs_same (earlier ++ s ∷ []) subs (subst Earlier (sym (map_more without_lines earlier (s ∷ []))) parts.1))
