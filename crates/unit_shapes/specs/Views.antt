-- What a program knows of names, with the types of a table in place of their numbers.
use Rattle.std.specs.Prelude.{◌≡◌, ◌<◌, List, length}
use Rattle.type_table.specs.declared.row.TypeRow.{TypeRow}
use Rattle.type_table.specs.Rows.{type_of}
use Rattle.name_rules.specs.Scopes as rules
use Rattle.name_rules.specs.Values.{undeclared_function}
use Rattle.name_state.specs.declared.unit_names.names.Names.{Names}
use Rattle.name_state.specs.UnitNames.Shown.{names_of}
use Rattle.expr_shapes.specs.Types.{ArePlain}
use Rattle.unit_shapes.specs.declared.uses.ImplicitTypes.{ImplicitTypes}

-- what is known of names, with the types of a table in place of their numbers
abbrev pub names_in : List TypeRow → Names → rules.Names
names_in rows s = names_of (type_of rows) s

-- the numbers of types that no source writes are right: of plain ones, and of a function that is called undeclared
pub record AreImplicit (rows : List TypeRow) (it : ImplicitTypes) : Type 0 where
  pub plain : ArePlain rows it.plain
  pub function : type_of rows it.function ≡ undeclared_function
  -- it is a type of the table, so that these stay as they are while it grows
  pub low : it.plain.base < length rows
