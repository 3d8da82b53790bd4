-- What a program has of expressions, with the types of a table in place of their numbers.
use Rattle.std.specs.Prelude.{List, Option, None, Some}
use Rattle.type_table.specs.declared.row.TypeRow.{TypeRow}
use Rattle.type_table.specs.Types.{CType}
use Rattle.name_rules.specs.Spellings.{Place}
use Rattle.name_rules.specs.Values.{Shape}
use Rattle.name_tables.specs.declared.place_map.map.PlaceMap.{PlaceMap}
use Rattle.name_tables.specs.PlaceMap.Values.{value_at}
use Rattle.expr_shapes.specs.declared.shape_values.shape.ExprShape.{ExprShape}
use Rattle.expr_shapes.specs.ShapeValues.Views.{shape_in}
use Rattle.unit_shapes.specs.Views.{names_in}
use Rattle.unit_types.specs.Resolved.{Resolved, tapes_of}
use Rattle.expr_types.specs.Along.{Keyed, shapes_among, first_at, type_found_at}

-- an expression, where there is one, with its type in place of the type's number
abbrev pub some_shape_in : List TypeRow → Option ExprShape → Option Shape
some_shape_in rows None = None
some_shape_in rows (Some shape) = Some (shape_in rows shape)

-- what a table has at a place
abbrev pub found_at : List TypeRow → PlaceMap ExprShape → Place → Option Shape
found_at rows found at = some_shape_in rows (value_at found at)

-- the expressions of resolved units
abbrev pub shapes_of : Resolved → List Keyed
shapes_of it = shapes_among (names_in it.rows it.names) (tapes_of it.units)

-- the expression with this key token
abbrev pub shape_of_place : Resolved → Place → Option Shape
shape_of_place it at = first_at (shapes_of it) at

-- the type of the expression with this key token, or of the type's name that begins there
abbrev pub type_of_place : Resolved → Place → Option CType
type_of_place it at = type_found_at (names_in it.rows it.names) (shapes_of it) at
