-- The expressions along tapes, in the order of the ops that end them, each with its key token and with what it is; and
-- what is found at a token.
use Rattle.std.specs.Prelude.{List, [], ◌∷◌, ◌++◌, ℕ, Option, None, Some, if◌then◌else◌}
use Rattle.tape_ops.specs.declared.op.Op.{Op}
use Rattle.tape_ops.specs.declared.op.Op.TheVariants as ops
use Rattle.type_table.specs.Types.{CType}
use Rattle.name_rules.specs.Spellings.{Spelling, Place, place}
use Rattle.name_rules.specs.Scopes.{Names, is_place}
use Rattle.name_rules.specs.Values.{Shape, a_place, value}
use Rattle.name_rules.specs.Uses.{type_named_at}
use Rattle.name_rules.specs.NameSteps.Units.{Tape}
use Rattle.name_rules.specs.ShapeSteps.State.{State, nothing, shape_at, type_of_operand, first_operand, operands_below}
use Rattle.name_rules.specs.ShapeSteps.Steps.{step}
use Rattle.expr_types.specs.Keys.{op_key}

-- an expression: its key token, and what it is
pub record Keyed : Type 0 where
  pub at : Place
  pub shape : Shape

-- a compound literal whose values are on the stack, with its type under them
abbrev pub literal_on : State → Shape
literal_on st = a_place (type_of_operand (first_operand (operands_below st)))

-- What an op that has a key ends, by what is on the stacks before and behind it. Of a compound literal that is known
-- before it.
abbrev pub op_shape : State → State → Op → Shape
op_shape before behind (ops.Expr op) = shape_at 0 behind
op_shape before behind (ops.Form op) = shape_at 0 behind
op_shape before behind (ops.Init op) = literal_on before
op_shape before behind (ops.Spec op) = a_place None
op_shape before behind (ops.Declr op) = a_place None
op_shape before behind (ops.Stmt op) = a_place None

-- an expression with its key token, where it has one
abbrev pub keyed : Spelling → Option ℕ → Shape → List Keyed
keyed u None shape = []
keyed u (Some token) shape = record { at = place u token; shape = shape } ∷ []

-- the expressions of a tape, from this state on
abbrev pub shapes_along : Spelling → Names → State → List Op → List Keyed
shapes_along u s st [] = []
shapes_along u s st (op ∷ tape) =
    keyed u (op_key op) (op_shape st (step u s st op) op) ++ shapes_along u s (step u s st op) tape

-- the expressions of units, one unit behind the other
abbrev pub shapes_among : Names → List Tape → List Keyed
shapes_among s [] = []
shapes_among s (it ∷ tapes) = shapes_along it.spelling s nothing it.ops ++ shapes_among s tapes

-- the first at a place
abbrev pub first_at : List Keyed → Place → Option Shape
first_at [] at = None
first_at (it ∷ others) at = if is_place it.at at then Some it.shape else first_at others at

-- the type of an expression's value, or where there is no expression, that of a type's name
abbrev pub type_or_named : Option Shape → Option CType → Option CType
type_or_named (Some shape) named = value shape
type_or_named None named = named

-- the type at a place: of the expression with this key token, or of the type's name that begins there
abbrev pub type_found_at : Names → List Keyed → Place → Option CType
type_found_at s all at = type_or_named (first_at all at) (type_named_at s.type_names at)
