-- Expressions of a tree stand at their key tokens along a tape, as the rules of types on trees say.
use Rattle.std.specs.Prelude.{Bool, Contains, List, ◌++◌}
use Rattle.tape_ops.specs.declared.op.Op.{Op}
use Rattle.c_tree.specs.Tree.{Expr}
use Rattle.c_tree.specs.Ends.{key_token}
use Rattle.c_tape.specs.Tape.{expr_tape}
use Rattle.name_rules.specs.Spellings.{Spelling, place}
use Rattle.name_rules.specs.Scopes.{Names}
use Rattle.type_rules.specs.Shapes.{shape_of}
use Rattle.name_rules.specs.ShapeSteps.State.{State}
use Rattle.expr_types.specs.Along.{Keyed, shapes_along}

-- an expression at its key token, with its shape
abbrev pub expression_at : Spelling → Names → Expr → Keyed
expression_at u s e = record { at = place u (key_token e); shape = shape_of u s e }

-- wherever the tape of an expression is a part of a tape
abbrev pub ExpressionsStand : Type 0
ExpressionsStand =
    (u : Spelling) (s : Names) (st : State) (before : List Op) (called : Bool) (e : Expr) (behind : List Op)
    → Contains (shapes_along u s st (before ++ expr_tape called e ++ behind)) (expression_at u s e)
