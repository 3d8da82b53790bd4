-- Declarations by places.
use Rattle.std.specs.Prelude.{List, [], ◌∷◌, Option, Some, None, if◌then◌else◌}
use Rattle.name_rules.specs.Spellings.{Place}
use Rattle.name_rules.specs.Scopes.{is_place}
use Rattle.name_tables.specs.declared.name_records.declarations.Declared.{Declared}

-- where a declaration stands
abbrev pub declared_place : Declared → Place
declared_place d = d.at

-- the first declaration at a place
abbrev pub first_declared : List Declared → Place → Option Declared
first_declared [] at = None
first_declared (d ∷ ds) at = if is_place d.at at then Some d else first_declared ds at
