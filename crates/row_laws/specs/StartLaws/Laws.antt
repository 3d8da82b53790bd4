-- Along the tape of a well-formed unit skeletons begin where the definition on its tree says, and the candidates of
-- selections are those that it says.
use Rattle.std.specs.Prelude.{◌≡◌, All, List, [], ◌∷◌, ◌++◌, Bool}
use Rattle.c_tree.specs.declared.lexeme.Lexeme.{Lexeme}
use Rattle.c_tree.specs.Unit.{Item, IsUnit}
use Rattle.c_tape.specs.Tape.{tape_of}
use Rattle.name_rules.specs.Spellings.{Spelling}
use Rattle.name_rules.specs.Scopes.{Names}
use Rattle.type_rules.specs.Program.{Source, names_of}
use Rattle.name_rules.specs.ShapeSteps.State.{nothing}
use Rattle.row_rules.specs.Starting.{Start, Selection}
use Rattle.row_rules.specs.RowSteps.Starting.{unit_starts, selections_found}
use Rattle.constraint_rules.specs.Starts.{items_starts}
use Rattle.constraint_rules.specs.Selections.{items_selections}
use Rattle.constraint_rules.specs.Systems.{starts_of, selections_among}

-- the skeletons of a unit, in the order of its tape
abbrev pub StartsAreFound : Type 0
StartsAreFound =
    (access : Bool) (u : Spelling) (s : Names) (all : List Lexeme) (items : List Item) → IsUnit all items →
    unit_starts access u s (tape_of items) ≡ items_starts access u s items

-- along the tapes of several units, over what is known of names behind them all
abbrev pub found_on : Bool → Names → List Source → List Start
found_on access s [] = []
found_on access s (it ∷ sources) = unit_starts access it.spelling s (tape_of it.items) ++ found_on access s sources

-- the items of a unit are those of some tokens, well formed but for scopes
abbrev pub IsSound : Source → Type 0
IsSound it = (all : List Lexeme) × IsUnit all it.items

-- the law: the skeletons of a program are those that are found on the tapes of its units, in their order
abbrev pub StartsOfProgramAreFound : Type 0
StartsOfProgramAreFound = (access : Bool) (sources : List Source) → All IsSound sources →
    found_on access (names_of sources) sources ≡ starts_of access sources

-- the law: the selections of a unit are those that are found on its tape, in their order
abbrev pub SelectionsAreFound : Type 0
SelectionsAreFound =
    (u : Spelling) (s : Names) (items : List Item)
    → selections_found u s nothing (tape_of items) ≡ items_selections u s items

-- the candidates of the selections of units, in the order of their tapes
abbrev pub selections_on : Names → List Source → List Selection
selections_on s [] = []
selections_on s (it ∷ sources) = selections_found it.spelling s nothing (tape_of it.items) ++ selections_on s sources

-- the law: the selections of a program are those that are found on the tapes of its units, in their order
abbrev pub SelectionsOfProgramAreFound : Type 0
SelectionsOfProgramAreFound = (sources : List Source) →
    selections_on (names_of sources) sources ≡ selections_among (names_of sources) sources
