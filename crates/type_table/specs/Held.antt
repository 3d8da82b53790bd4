-- What is true of the fields of every table of types.
use Rattle.std.specs.Prelude.{◌≡◌, ◌<◌, ◌^◌, [], length}
use Rattle.type_table.specs.declared.row.Shape.TheVariants as shapes
use Rattle.type_table.specs.declared.table.TypeTable.TheInside.{Inside}
use Rattle.type_table.specs.Rows.{AreMade}

-- what holds of each table of types
pub record IsHeld (table : Inside) : Type 0 where
  pub made : AreMade [] table.rows.items
  pub few : length table.rows.items < 2 ^ 32
  pub past : table.past ≡ shapes.Base
