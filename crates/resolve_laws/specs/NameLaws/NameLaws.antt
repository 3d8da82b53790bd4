-- The names of units by their tapes and by their trees.
use Rattle.std.specs.Prelude.{◌≡◌, All, List, map}
use Rattle.c_tree.specs.declared.lexeme.Lexeme.{Lexeme}
use Rattle.c_tree.specs.Unit.{Item, IsUnit}
use Rattle.c_tape.specs.Tape.{tape_of}
use Rattle.name_rules.specs.Spellings.{Spelling}
use Rattle.name_rules.specs.Scopes.{Names}
use Rattle.name_rules.specs.Units.{no_names}
use Rattle.name_rules.specs.NameSteps.State.{with_names}
use Rattle.name_rules.specs.NameSteps.Steps.{run}
use Rattle.name_rules.specs.NameSteps.Units.{Tape, tapes_named}
use Rattle.type_rules.specs.Naming.{items_named}
use Rattle.type_rules.specs.Program.{Source, names_of}

-- the steps over the tape of a unit find what the unit says of names, and leave nothing begun behind its ops
abbrev pub NamesAreSteps : Type 0
NamesAreSteps =
    (u : Spelling) (all : List Lexeme) (items : List Item) (s : Names) → IsUnit all items
    → run u (tape_of items) (with_names s) ≡ record (with_names (items_named u items s)) { passed = tape_of items }

-- the tape of a unit, with what is read from its tokens
abbrev pub tape_of_source : Source → Tape
tape_of_source it = record { spelling = it.spelling; ops = tape_of it.items }

-- the items of a unit are those of some tokens, well formed but for scopes
abbrev pub IsSound : Source → Type 0
IsSound it = (all : List Lexeme) × IsUnit all it.items

-- the law: the tapes of well-formed units say of names what the units say
abbrev pub NamesOfTapes : Type 0
NamesOfTapes = (sources : List Source) → All IsSound sources
    → tapes_named (map tape_of_source sources) no_names ≡ names_of sources
