-- The steps over a tape give each expression its shape, and find the faults of its unit, as they are said on the tree.
use Rattle.std.specs.Prelude.{◌≡◌, ◌↔◌, ℕ, Bool, Contains, List, [], ◌∷◌, ◌++◌, Option, None, Some}
use Rattle.c_tree.specs.Tree.{Expr, Declr, Declaration}
use Rattle.c_tree.specs.Unit.{Item}
use Rattle.c_tape.specs.Tape.{expr_tape, addressed_tape, old_contents, tape_of}
use Rattle.name_rules.specs.Spellings.{Spelling, Named}
use Rattle.name_rules.specs.Faults.{Fault, IsFirst}
use Rattle.name_rules.specs.Scopes.{Names}
use Rattle.type_rules.specs.Shapes.{shape_of, is_zero}
use Rattle.type_rules.specs.Tokens.{declared_name}
use Rattle.name_rules.specs.Linking.{body_faults}
use Rattle.type_rules.specs.Judging.{items_faults_of}
use Rattle.type_rules.specs.Program.{Source, names_of, HasNoFault, IsFirstFault}
use Rattle.name_rules.specs.ShapeSteps.State.{expression, State, nothing, opened, operand_put}
use Rattle.name_rules.specs.ShapeSteps.Steps.{run}
use Rattle.name_rules.specs.ShapeSteps.Found.{faults_found}

-- the tape of an expression leaves one operand more: its shape, and whether it is a zero
abbrev pub ShapesAreLeft : Type 0
ShapesAreLeft =
    (u : Spelling) (s : Names) (e : Expr) (called : Bool) (st : State)
    → run u s st (expr_tape called e) ≡ operand_put 0 (expression (shape_of u s e) (is_zero u s e)) st

-- the tape of an expression whose place is only addressed leaves one operand more, too
abbrev pub AddressedAreLeft : Type 0
AddressedAreLeft =
    (u : Spelling) (s : Names) (e : Expr) (st : State)
    → run u s st (addressed_tape e) ≡ operand_put 0 (expression (shape_of u s e) (is_zero u s e)) st

-- the token of a name, where there is one
abbrev pub token_of : Option Named → Option ℕ
token_of None = None
token_of (Some it) = Some it.token

-- the tape of a declarator with a list of identifiers, and of the declarations behind that, leaves its name in its
-- declaration
abbrev pub OldNamesAreLeft : Type 0
OldNamesAreLeft =
    (u : Spelling) (s : Names) (ds : List Declaration) (d : Declr) (st : State)
    → run u s (opened st) (old_contents ds d) ≡
    record st { declarations = record { name = token_of (declared_name d); declared = None } ∷ st.declarations }

-- the tape of a unit leaves nothing behind
abbrev pub UnitsLeaveNothing : Type 0
UnitsLeaveNothing = (u : Spelling) (s : Names) (items : List Item) (st : State) → run u s st (tape_of items) ≡ st

-- what is found on the tape of a unit are the faults of its expressions and initialisers
abbrev pub FaultsAreFound : Type 0
FaultsAreFound =
    (u : Spelling) (s : Names) (items : List Item) (f : Fault)
    → Contains (faults_found u s nothing (tape_of items)) f ↔ Contains (items_faults_of u s items) f

-- what is found on the tapes of several units, over what is known of names behind them all
abbrev pub found_on : List Source → Names → List Fault
found_on [] s = []
found_on (it ∷ sources) s = faults_found it.spelling s nothing (tape_of it.items) ++ found_on sources s

-- the faults of names and bodies, and what is found on the tapes of all units
abbrev pub all_found : List Source → List Fault
all_found sources = (names_of sources).faults ++ (body_faults (names_of sources) ++ found_on sources (names_of sources))

-- the first fault of a program is the first of the faults of names and of those that are found on its tapes
abbrev pub FirstFaultIsFound : Type 0
FirstFaultIsFound = (sources : List Source) (f : Fault) → IsFirst f (all_found sources) ↔ IsFirstFault sources f

-- a program has no fault where neither names have one nor one is found on its tapes
abbrev pub NoneIsFound : Type 0
NoneIsFound = (sources : List Source) → (all_found sources ≡ []) ↔ HasNoFault sources
