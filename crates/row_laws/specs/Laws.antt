-- The steps over a tape give each expression its skeleton, and find the constraints of its unit, as they are
-- said on the tree.
use Rattle.std.specs.Prelude.{◌≡◌, All, Bool, List, [], ◌∷◌, ◌++◌, None}
use Rattle.flow_graph.specs.declared.constraint.Constraint.{Constraint}
use Rattle.c_tree.specs.Tree.{Expr}
use Rattle.c_tree.specs.declared.lexeme.Lexeme.{Lexeme}
use Rattle.c_tree.specs.WellFormed.{IsExpr}
use Rattle.c_tree.specs.Unit.{Item, IsUnit}
use Rattle.c_tape.specs.Tape.{expr_tape, tape_of}
use Rattle.type_rules.specs.Shapes.{is_zero}
use Rattle.type_rules.specs.Program.{Source}
use Rattle.row_rules.specs.Worlds.{World}
use Rattle.row_rules.specs.RowSteps.State.{expression, State, nothing, operand_put}
use Rattle.row_rules.specs.RowSteps.Steps.{run}
use Rattle.row_rules.specs.RowSteps.Found.{unit_rows}
use Rattle.constraint_rules.specs.Values.{val}
use Rattle.constraint_rules.specs.Demands.{items_demand}
use Rattle.constraint_rules.specs.Systems.{Program, world_of, system_of}

-- the skeleton of the compound literal that was gone through last and the pointer that was noted last are of no use
-- behind what they are for
abbrev pub with_registers : State → State → State
with_registers it st = record st { literal = it.literal; carried = it.carried }

-- Where no argument and no item of an initialiser is being taken, the tape of a well-formed expression leaves one
-- operand more: its skeleton, and whether it is a zero.
abbrev pub ValuesAreLeft : Type 0
ValuesAreLeft =
    (w : World) (all : List Lexeme) (e : Expr) (called : Bool) (st : State) → IsExpr all e → st.leaves ≡ []
    → st.passed ≡ 0
    → run w st (expr_tape called e) ≡
    with_registers (run w st (expr_tape called e))
    (operand_put 0 (expression (val w e) (is_zero w.spelling w.names e)) st)

-- the tape of a unit leaves nothing behind
abbrev pub UnitsLeaveNothing : Type 0
UnitsLeaveNothing =
    (w : World) (all : List Lexeme) (items : List Item) → IsUnit all items
    → run w nothing (tape_of items) ≡ with_registers (run w nothing (tape_of items)) nothing

-- the constraints that are found on the tape of a unit are those of its items, in their order
abbrev pub RowsAreFound : Type 0
RowsAreFound =
    (w : World) (all : List Lexeme) (items : List Item) → IsUnit all items → w.own ≡ None
    → unit_rows w (tape_of items) ≡ items_demand w items

-- what is found on the tapes of units of a program
abbrev pub rows_among : Program → List Source → List Constraint
rows_among p [] = []
rows_among p (it ∷ sources) = unit_rows (world_of p it) (tape_of it.items) ++ rows_among p sources

-- the items of a unit are those of some tokens, well formed but for scopes
abbrev pub IsSound : Source → Type 0
IsSound it = (all : List Lexeme) × IsUnit all it.items

-- the constraints of a program's system are those that are found on the tapes of its units
abbrev pub ConstraintsAreFound : Type 0
ConstraintsAreFound = (p : Program) → All IsSound p.sources → rows_among p p.sources ≡ (system_of p).constraints
