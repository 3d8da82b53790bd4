-- Laws of the reader of units: what it answers is well formed, what is well formed it answers, and no tokens are those
-- of two well-formed units.
use Rattle.std.specs.Prelude.{◌≡◌, List, [], Ok, Bool}
use Rattle.c_tree.specs.declared.lexeme.Lexeme.{Lexeme}
use Rattle.c_tree.specs.Unit.{Item}
use Rattle.c_units.specs.HeldScopes.{file_scope}
use Rattle.c_units.specs.Units.{IsWellFormed}
use Rattle.c_reading.specs.Reading.{Found, IsNumbered}
use Rattle.c_reading.specs.Knot.{unit_at}

-- the items that are read of numbered tokens are a well-formed unit of these
abbrev pub UnitIsWellFormed : Type 0
UnitIsWellFormed =
    (wide : Bool) (all : List Lexeme) → IsNumbered all → (x : Found (List Item)) → unit_at wide all ≡ Ok x
    → IsWellFormed wide all x.tree

-- of the tokens of a well-formed unit its items are read
abbrev pub WellFormedIsRead : Type 0
WellFormedIsRead =
    (wide : Bool) (all : List Lexeme) → IsNumbered all → (items : List Item) → IsWellFormed wide all items
    → unit_at wide all ≡ Ok (record { tree = items; scopes = file_scope wide; rest = [] })

-- numbered tokens are those of one well-formed unit at most
abbrev pub OneUnitAtMost : Type 0
OneUnitAtMost =
    (wide : Bool) (all : List Lexeme) → IsNumbered all → (items others : List Item) → IsWellFormed wide all items
    → IsWellFormed wide all others → items ≡ others
