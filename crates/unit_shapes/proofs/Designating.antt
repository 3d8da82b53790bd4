-- A designator of a member changes the innermost list, where that initialises something, and nothing else.
use Rattle.std.proofs.Common.{◌≡◌, ℕ, true, false, List, [], ◌∷◌, refl, sym, ◌∙◌, ap}
use Rattle.name_rules.specs.Scopes.{Aggregate}
use Rattle.name_rules.specs.ShapeSteps.State.{Braces, whole, untargeted, listed, State, first_braces, changed, without_innermost}
use Rattle.name_rules.specs.ShapeSteps.Steps.{with_member, within, in_braces, list_left}
use Rattle.unit_shapes.specs.Targets.{is_listed}

module _ (all : List Aggregate) (name : ℕ) where
  on : (bs : List Braces) → is_listed (first_braces bs) ≡ true
      → with_member all name (first_braces bs) ∷ without_innermost bs ≡ changed (with_member all name) bs
  on [] is = absurd cc
  on (b ∷ bs) is = refl

  off : (bs : List Braces) → is_listed (first_braces bs) ≡ false → bs ≡ changed (with_member all name) bs
  off [] is = refl
  off (whole t ∷ bs) is = refl
  off (untargeted ∷ bs) is = refl
  off (listed t is_first next named ∷ bs) is = absurd cc

  pub member_named : (st left after : State) (b named : Braces) → b ≡ first_braces st.braces → is_listed b ≡ true
      → named ≡ with_member all name b → left ≡ list_left st → after ≡ within named left
      → after ≡ in_braces (with_member all name) st
  member_named st left after b named first is made gone put =
      put ∙ ap (within named) gone
      ∙ ap (λ (n : Braces). within n (list_left st)) (made ∙ ap (with_member all name) first)
      ∙ ap (λ (bs : List Braces). let it : State = record st { braces = bs } in it)
      (on st.braces (ap is_listed (sym first) ∙ is))

  pub none_named : (st : State) (b : Braces) → b ≡ first_braces st.braces → is_listed b ≡ false
      → st ≡ in_braces (with_member all name) st
  none_named st b first is =
      ap (λ (bs : List Braces). let it : State = record st { braces = bs } in it)
      (off st.braces (ap is_listed (sym first) ∙ is))
