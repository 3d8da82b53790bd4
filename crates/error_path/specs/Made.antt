-- Sub-paths that are made from the reasons of summaries.
use Rattle.std.specs.Prelude.{◌≡◌, ℕ, ◌+◌, ◌<◌, ◌≤◌, List, [], ◌∷◌, ◌++◌, length, reverse, slice_get, Option, Some, None, option_map}
use Rattle.flow_graph.specs.declared.constraint.Link.TheVariants.{Enter, Leave}
use Rattle.flow_graph.specs.declared.proof.PathStep.{PathStep}
use Rattle.flow_graph.specs.declared.proof.PathStep.TheVariants.{Take, Sub}
use Rattle.flow_graph.specs.declared.step.Seen.TheVariants.{Through}
use Rattle.flow_graph.specs.System.{System, Has}
use Rattle.flow_graph.specs.PathProofs.{look, span_of, steps_of}
use Rattle.error_path.specs.Places.{place_in}
use Rattle.error_path.specs.declared.steps.Pair.{Pair}
use Rattle.error_path.specs.declared.sub_paths.SubPaths.{SubPaths}
use Rattle.flow_graph.specs.Parts.{AreSubs}

-- Steps that are written from their end to their beginning have more steps in front.
abbrev pub Fronts : List PathStep → List PathStep → List PathStep → Type 0
Fronts front old new = reverse new ≡ front ++ reverse old

-- the steps of a group: its Enter, the sub-path inside, if there is one, and its Leave
abbrev pub group_steps : ℕ → Option ℕ → ℕ → List PathStep
group_steps enter None leave = Take enter 0 ∷ Take leave 0 ∷ []
group_steps enter (Some k) leave = Take enter 0 ∷ Sub k 0 ∷ Take leave 0 ∷ []

-- the variables inside a group
pub record IsInner (sys : System) (enter leave : ℕ) (pair : Pair) : Type 0 where
  pub from : (s u a : ℕ) → Has sys enter (Enter s u a) → pair.from ≡ a
  pub to : (s b v : ℕ) → Has sys leave (Leave s b v) → pair.to ≡ b

-- Sub-paths have places by their first and last variables.
pub record AreMade (sys : System) (lattice : ℕ) (subs : List (List PathStep)) (place : ℕ → ℕ → Option ℕ) : Type 0 where
  pub good : AreSubs sys lattice subs
  pub few : length subs ≤ 4294967294
  pub found : (u v n : ℕ) → place u v ≡ Some n → (n < length subs) × (look sys subs (Sub (n + 1) 0) ≡ Through u v)
  pub named : (n : ℕ) (steps : List PathStep) → slice_get subs n ≡ Some steps
      → (u : ℕ) × (v : ℕ) × (span_of sys (Some steps) ≡ Through u v) × (place u v ≡ Some n)

-- the sub-paths that are made, in their order
abbrev pub subs_in : SubPaths → List (List PathStep)
subs_in made = steps_of made.paths.items

-- the place of the sub-path from one variable to another, if it is made
abbrev pub place_of : SubPaths → ℕ → ℕ → Option ℕ
place_of made = place_in made.places.map

-- the sub-paths that are made are right, with the places that they have
abbrev pub IsMade : System → SubPaths → Type 0
IsMade sys made = AreMade sys made.lattice (subs_in made) (place_of made)

-- the number of a sub-path, where they count from 1
abbrev pub number_in : SubPaths → ℕ → ℕ → Option ℕ
number_in made u v = option_map (λ n. n + 1) (place_of made u v)

-- after sub-paths came behind others
pub record Extends (old new : SubPaths) : Type 0 where
  pub more : List (List PathStep)
  pub is : subs_in new ≡ subs_in old ++ more
  pub lattice : new.lattice ≡ old.lattice
