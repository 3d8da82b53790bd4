-- The lines of sub-paths, one after the other.
use Rattle.std.proofs.Common.{◌≡◌, ℕ, zero, suc, ◌+◌, ◌<◌, ◌≤◌, List, [], ◌∷◌, ◌++◌, length, take, get_or, Option, Some, None, codes, slice_get, refl, sym, ◌∙◌, ap, arith, append_assoc, append-nil}
use Rattle.std.specs.Fmt.{decimal}
use Rattle.flow_graph.specs.declared.proof.PathStep.{PathStep}
use Rattle.flow_graph.specs.declared.proof.SubPath.{SubPath}
use Rattle.flow_graph.specs.System.{System}
use Rattle.flow_graph.specs.PathProofs.{steps_of}
use Rattle.std.proofs.Math.Seq.{take-suc}
use Rattle.std.proofs.lemmas.List.{take_all}
use Rattle.std.proofs.lemmas.Grind.{flat_map-append}
use Rattle.annotate.specs.Texts.{Scene, line, constraint_text, step_text, steps_text, subs_text, taken}

module _ (scene : Scene) (sys : System) where
  -- the lines of one sub-path with a number
  abbrev pub one_text : ℕ → List PathStep → List ℕ
  one_text k steps = line (codes "sub " ++ decimal k) ++ steps_text scene sys steps

  subs_more : (k : ℕ) (subs : List (List PathStep)) (steps : List PathStep)
      → subs_text scene sys k (subs ++ steps ∷ []) ≡ subs_text scene sys k subs ++ one_text (k + length subs) steps
  subs_more k [] steps =
      let here : k ≡ k + 0 = omega arith in append-nil (one_text k steps) ∙ ap (λ n. one_text n steps) here
  subs_more k (s ∷ subs) steps =
      let next : k + 1 + length subs ≡ k + length (s ∷ subs) = omega arith in
      ap (λ t. one_text k s ++ t)
      (subs_more (k + 1) subs steps ∙ ap (λ n. subs_text scene sys (k + 1) subs ++ one_text n steps) next)
      ∙ sym (append_assoc (one_text k s) (subs_text scene sys (k + 1) subs) (one_text (k + length (s ∷ subs)) steps))

  some_is : {x y : SubPath} → Some x ≡ Some y → x ≡ y
  some_is e = cc

  steps_next : (subs : List SubPath) (n : ℕ) (sub : SubPath) → slice_get subs n ≡ Some sub
      → steps_of (take (suc n) subs) ≡ steps_of (take n subs) ++ sub.steps.items ∷ []
  steps_next [] n sub is = absurd cc
  steps_next (x ∷ subs) zero sub is = ap (λ (s : SubPath). s.steps.items ∷ []) (some_is is)
  steps_next (x ∷ subs) (suc n) sub is = ap (λ rest. x.steps.items ∷ rest) (steps_next subs n sub is)

  counted : (subs : List SubPath) (n : ℕ) (sub : SubPath) → slice_get subs n ≡ Some sub
      → length (steps_of (take n subs)) ≡ n
  counted [] n sub is = absurd cc
  counted (x ∷ subs) zero sub is = refl
  counted (x ∷ subs) (suc n) sub is = ap suc (counted subs n sub is)

  -- one sub-path more
  pub next_sub : (subs : List SubPath) (n : ℕ) (sub : SubPath) → slice_get subs n ≡ Some sub →
      (old before headed after : List ℕ) (number : ℕ) (steps : List PathStep) → number ≡ n + 1
      → steps ≡ sub.steps.items →
      before ≡ old ++ subs_text scene sys 1 (steps_of (take n subs))
      → headed ≡ before ++ line (codes "sub " ++ decimal number) → after ≡ headed ++ steps_text scene sys steps →
      after ≡ old ++ subs_text scene sys 1 (steps_of (take (n + 1) subs))
  next_sub subs n sub is old before headed after number steps number_is steps_are was head then =
      let taken : List (List PathStep) = steps_of (take n subs) in
      let at : number ≡ 1 + length taken = (let c = counted subs n sub is in omega (arith, c, number_is)) in
      let next : n + 1 ≡ suc n = omega arith in
      then ∙ ap (λ t. t ++ steps_text scene sys steps) (head ∙ ap (λ t. t ++ line (codes "sub " ++ decimal number)) was)
      ∙ append_assoc (old ++ subs_text scene sys 1 taken) (line (codes "sub " ++ decimal number))
      (steps_text scene sys steps) ∙ append_assoc old (subs_text scene sys 1 taken) (one_text number steps)
      ∙ ap (λ t. old ++ (subs_text scene sys 1 taken ++ t))
      (ap (λ k. one_text k steps) at ∙ ap (one_text (1 + length taken)) steps_are)
      ∙ ap (λ t. old ++ t) (sym (subs_more 1 taken sub.steps.items)
      ∙ ap (subs_text scene sys 1) (sym (ap (λ k. steps_of (take k subs)) next ∙ steps_next subs n sub is)))

  -- one step more
  pub step_more : (steps : List PathStep) (n : ℕ) (step : PathStep) → n < length steps → step ≡ get_or steps n step
      → steps_text scene sys (take (n + 1) steps) ≡ steps_text scene sys (take n steps) ++ step_text scene sys step
  step_more steps n step within is =
      let next : n + 1 ≡ suc n = omega arith in
      ap (λ k. steps_text scene sys (take k steps)) next
      ∙ ap (steps_text scene sys)
      (take-suc steps n step within ∙ ap (λ (s : PathStep). take n steps ++ s ∷ []) (sym is))
      ∙ flat_map-append (step_text scene sys) (take n steps) (step ∷ [])
      ∙ ap (λ (t : List ℕ). steps_text scene sys (take n steps) ++ t) (append-nil (step_text scene sys step))

  -- as many as there are
  pub all_steps : (steps : List PathStep) (n : ℕ) → length steps ≤ n
      → steps_text scene sys (take n steps) ≡ steps_text scene sys steps
  all_steps steps n past = ap (steps_text scene sys) (take_all n steps past)

  pub all_subs : (subs : List SubPath) (n : ℕ) → length subs ≤ n
      → subs_text scene sys 1 (steps_of (take n subs)) ≡ subs_text scene sys 1 (steps_of subs)
  all_subs subs n past = ap (λ (taken : List SubPath). subs_text scene sys 1 (steps_of taken)) (take_all n subs past)

  -- the line of a constraint beside a walk
  pub beside_is : (beside : Option ℕ) (at : ℕ) → beside ≡ Some at →
      constraint_text scene at (slice_get sys.constraints at) ≡ steps_text scene sys (taken beside)
  beside_is beside at is =
      sym (append-nil (constraint_text scene at (slice_get sys.constraints at)))
      ∙ ap (λ (o : Option ℕ). steps_text scene sys (taken o)) (sym is)

  pub none_beside : (beside : Option ℕ) → beside ≡ None → [] ≡ steps_text scene sys (taken beside)
  none_beside beside is = ap (λ (o : Option ℕ). steps_text scene sys (taken o)) (sym is)

  -- the lines of steps between those of two constraints
  pub walk_lines : (front : List ℕ) (first steps last : List PathStep) →
      front ++ steps_text scene sys first ++ steps_text scene sys steps ++ steps_text scene sys last
      ≡ front ++ steps_text scene sys (first ++ steps ++ last)
  walk_lines front first steps last =
      let text : List PathStep → List ℕ = λ steps. steps_text scene sys steps in
      ap (λ t. t ++ text last) (append_assoc front (text first) (text steps)
      ∙ ap (λ t. front ++ t) (sym (flat_map-append (step_text scene sys) first steps)))
      ∙ append_assoc front (text (first ++ steps)) (text last)
      ∙ ap (λ t. front ++ t) (sym (flat_map-append (step_text scene sys) (first ++ steps) last))
