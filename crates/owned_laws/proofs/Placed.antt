-- What begins along the tape of an item belongs to its function, to what was first declared as a function, or to
-- nobody.
use Rattle.std.proofs.Common.{ℕ, Bool, List, [], ◌∷◌, Option, sym, subst}
use Rattle.tape_ops.specs.declared.op.Op.{Op}
use Rattle.name_rules.specs.ShapeSteps.State as shapes
use Rattle.name_rules.specs.ShapeSteps.State.{OpenDeclaration}
use Rattle.name_rules.specs.ShapeSteps.Steps as shape_steps
use Rattle.name_rules.specs.Spellings.{Place}
use Rattle.row_rules.specs.Worlds.{World}
use Rattle.row_rules.specs.RowSteps.Rounds.{Rounds, round_step}
use Rattle.row_rules.specs.RowSteps.State.{State}
use Rattle.row_rules.specs.RowSteps.Steps.{step}
use Rattle.row_rules.specs.RowSteps.Starting.{function_at, op_starts, starts_found}
use Rattle.row_laws.specs.KeyLaws.Keys.{KeysAreApart}
use Rattle.owned_laws.specs.Contexts.{ContextsAlong}
use Rattle.owned_laws.proofs.Opening.{Alike, alike, with_access, step_access}
use Rattle.owned_laws.proofs.Begin.{AllPlaced, placed_joined, op_placed}

-- along the tape of an item each skeleton is placed in the function of the item
pub tape_placed : (access : Bool) (w : World) (t : Option ℕ) (tape : List Op) (sst : shapes.State) (st : State) →
    Alike w sst st → ContextsAlong w t st tape → KeysAreApart w.spelling w.names tape →
    AllPlaced w.names (function_at w.spelling w.names t)
    (starts_found w.spelling w.names sst (with_access access st.rounds) tape)
tape_placed access w t [] sst st same its apart = tt
tape_placed access w t (op ∷ tape) sst st same its apart =
    placed_joined w.names f (op_starts w.spelling w.names sst here op)
    (starts_found w.spelling w.names next (round_step sst.declarations here op) tape)
    (op_placed w.spelling w.names sst here t its.0.params its.0.body op apart.0)
    (subst (λ (ds : List OpenDeclaration). AllPlaced w.names f
    (starts_found w.spelling w.names next (round_step ds here op) tape)) (sym same)
    (subst (λ (r : Rounds). AllPlaced w.names f (starts_found w.spelling w.names next r tape))
    (sym (step_access access st.declarations st.rounds op))
    (tape_placed access w t tape next (step w st op) (alike w sst st op same) its.1 apart.1)))
  where
    f : Option Place
    f = function_at w.spelling w.names t

    here : Rounds
    here = with_access access st.rounds

    next : shapes.State
    next = shape_steps.step w.spelling w.names sst op
