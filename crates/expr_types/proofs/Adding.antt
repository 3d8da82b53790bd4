-- What is found first in the parts of a list is what is found first in all of it.
use Rattle.std.proofs.Common.{◌≡◌, ◌++◌, ◌+◌, ◌<◌, ℕ, zero, suc, arith, length, drop, slice_index_or, Bool, true, false, List, [], ◌∷◌, Option, None, Some, refl, sym, ◌∙◌, ap, if◌then◌else◌}
use Rattle.tape_ops.specs.declared.op.Op.{Op}
use Rattle.name_rules.specs.Spellings.{Spelling, Place}
use Rattle.name_rules.specs.Scopes.{Names, is_place}
use Rattle.name_rules.specs.Values.{Shape}
use Rattle.name_rules.specs.ShapeSteps.State.{State, nothing}
use Rattle.name_rules.specs.ShapeSteps.Steps.{step}
use Rattle.name_tables.specs.PlaceMap.Values.{or_else}
use Rattle.unit_types.specs.declared.program.UnitTape.{UnitTape}
use Rattle.unit_types.specs.Resolved.{tape_of, tapes_of}
use Rattle.expr_types.specs.Along.{Keyed, op_shape, keyed, shapes_along, shapes_among, first_at}
use Rattle.expr_types.specs.Keys.{op_key}

or_assoc : {V : Type 0} (a b c : Option V) → or_else (or_else a b) c ≡ or_else a (or_else b c)
or_assoc None b c = refl
or_assoc (Some v) b c = refl

pub or_none : {V : Type 0} (o : Option V) → or_else o None ≡ o
or_none None = refl
or_none (Some v) = refl

-- what stands first at a place in two lists is what does in the first, or else in the second
pub first_append : (xs ys : List Keyed) (at : Place)
    → first_at (xs ++ ys) at ≡ or_else (first_at xs at) (first_at ys at)
first_append [] ys at = refl
first_append (x ∷ xs) ys at = by_test (is_place x.at at) (first_append xs ys at)
  where
    by_test : (b : Bool) → first_at (xs ++ ys) at ≡ or_else (first_at xs at) (first_at ys at)
        → (if b then Some x.shape else first_at (xs ++ ys) at)
        ≡ or_else (if b then Some x.shape else first_at xs at) (first_at ys at)
    by_test true is = refl
    by_test false is = is

-- behind one more part, the rest of the list is still to come
pub goes_on : (before after : Option Shape) (xs ys : List Keyed) (at : Place)
    → after ≡ or_else before (first_at xs at)
    → or_else after (first_at ys at) ≡ or_else before (first_at (xs ++ ys) at)
goes_on before after xs ys at added =
    ap (λ o. or_else o (first_at ys at)) added
    ∙ or_assoc before (first_at xs at) (first_at ys at)
    ∙ ap (or_else before) (sym (first_append xs ys at))

module _ (u : Spelling) (s : Names) where
  -- what is still to come before an op is what that op ends and what comes behind it
  pub next_op : (tape : List Op) (i : ℕ) (op : Op) (st : State) → op ≡ slice_index_or tape i op → i < length tape
      → keyed u (op_key op) (op_shape st (step u s st op) op) ++ shapes_along u s (step u s st op) (drop (i + 1) tape)
      ≡ shapes_along u s st (drop i tape)
  next_op [] i op st is lt = absurd (omega arith)
  next_op (it ∷ tape) zero op st is lt =
      ap (λ (x : Op). keyed u (op_key x) (op_shape st (step u s st x) x) ++ shapes_along u s (step u s st x) tape) is
  next_op (it ∷ tape) (suc i) op st is lt =
      let e : suc i + 1 ≡ suc (i + 1) = omega arith in rw e (next_op tape i op st is (omega arith))

-- and before a unit what stands in that one and in those behind it
pub next_unit : (s : Names) (units : List UnitTape) (i : ℕ) (it : UnitTape) → it ≡ slice_index_or units i it
    → i < length units
    → shapes_along (tape_of it).spelling s nothing (tape_of it).ops ++ shapes_among s (drop (i + 1) (tapes_of units))
    ≡ shapes_among s (drop i (tapes_of units))
next_unit s [] i it is lt = absurd (omega arith)
next_unit s (x ∷ units) zero it is lt =
    ap (λ (x : UnitTape). shapes_along (tape_of x).spelling s nothing (tape_of x).ops
    ++ shapes_among s (tapes_of units)) is
next_unit s (x ∷ units) (suc i) it is lt =
    let e : suc i + 1 ≡ suc (i + 1) = omega arith in rw e (next_unit s units i it is (omega arith))
