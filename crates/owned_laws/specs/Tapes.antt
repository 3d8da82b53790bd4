-- The constraints that are found on a tape fit, where each of its ops does.
use Rattle.std.specs.Prelude.{List, [], ◌∷◌, Option}
use Rattle.flow_graph.specs.declared.constraint.Constraint.{Constraint}
use Rattle.tape_ops.specs.declared.op.Op.{Op}
use Rattle.name_rules.specs.Spellings.{Place}
use Rattle.row_rules.specs.Starting.{Start}
use Rattle.row_rules.specs.Worlds.{World}
use Rattle.row_rules.specs.RowSteps.State.{State, nothing}
use Rattle.row_rules.specs.RowSteps.Steps.{step}
use Rattle.row_rules.specs.RowSteps.Found.{unit_rows}
use Rattle.owned_laws.specs.OwnerLaws.Fitting.{AllFit}
use Rattle.owned_laws.specs.OwnerLaws.Rows.{system_with}
use Rattle.owned_laws.specs.Around.{OpFits, Settled}

-- each op of a tape, in one function
abbrev pub OpsFit : World → List Start → Option Place → State → List Op → Type 0
OpsFit w starts f st [] = Unit {0}
OpsFit w starts f st (op ∷ tape) = OpFits w starts f st op × OpsFit w starts f (step w st op) tape

-- the law: where each op of a tape fits in one function, so do the constraints of the tape
abbrev pub TapesFit : Type 0
TapesFit =
    (functions : List Place) (starts : List Start) (cs : List Constraint) (w : World) (f : Option Place)
    (tape : List Op) → Settled starts w → OpsFit w starts f nothing tape
    → AllFit (system_with functions starts cs) (unit_rows w tape)
