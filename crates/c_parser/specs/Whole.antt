-- What the readers of lists answer of a whole unit.
use Rattle.std.specs.Prelude.{Bool, List, []}
use Rattle.c_tree.specs.Unit.{Item}
use Rattle.c_units.specs.HeldScopes.{file_scope}
use Rattle.c_reading.specs.Reading.{Found}

-- the items of a whole unit, read as wider C or not: nothing stands behind them
abbrev pub unit_found : Bool → List Item → Found (List Item)
unit_found wide items = record { tree = items; scopes = file_scope wide; rest = [] }
