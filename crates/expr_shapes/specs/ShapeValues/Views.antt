-- Shapes of expressions whose types are numbers of a table.
use Rattle.std.specs.Prelude.{ℕ, nat_eq, nat_lt, not, Bool, true, false, List, [], ◌∷◌, Option, Some, None}
use Rattle.type_table.specs.declared.row.TypeRow.{TypeRow}
use Rattle.type_table.specs.Types.{CType, base, void, struct, pointer, function}
use Rattle.type_table.specs.Rows.{type_of}
use Rattle.name_rules.specs.Values.{Shape, a_place, a_value, count_types}
use Rattle.expr_shapes.specs.declared.shape_values.shape.ValueType.{ValueType}
use Rattle.expr_shapes.specs.declared.shape_values.shape.ValueType.TheVariants as values
use Rattle.expr_shapes.specs.declared.shape_values.shape.ExprShape.{ExprShape}
use Rattle.expr_shapes.specs.declared.shape_values.shape.ExprShape.TheVariants as shapes

-- the type of a value: that of a number, or a pointer to it
abbrev pub value_type : List TypeRow → ValueType → CType
value_type rows (values.Of ty) = type_of rows ty
value_type rows (values.PointerTo ty) = pointer [] (type_of rows ty)

-- the type of a value, where it is known
abbrev pub some_value_type : List TypeRow → Option ValueType → Option CType
some_value_type rows None = None
some_value_type rows (Some value) = Some (value_type rows value)

-- the type of a number, where there is one
abbrev pub some_type : List TypeRow → Option ℕ → Option CType
some_type rows None = None
some_type rows (Some ty) = Some (type_of rows ty)

-- an expression as a place or a value, with its type in place of the type's number
abbrev pub shape_in : List TypeRow → ExprShape → Shape
shape_in rows (shapes.Place ty) = a_place (some_type rows ty)
shape_in rows (shapes.Value value) = a_value (some_value_type rows value)

-- whether a type is `void` without annotation words
abbrev pub is_plain_void : CType → Bool
is_plain_void (void []) = true
is_plain_void (void (word ∷ ws)) = false
is_plain_void (base ws) = false
is_plain_void (struct ws n) = false
is_plain_void (pointer ws t) = false
is_plain_void (function ws ps r e) = false

-- what a function gives
abbrev pub result_of : CType → Option CType
result_of (function ws ps r e) = Some r
result_of (base ws) = None
result_of (void ws) = None
result_of (struct ws n) = None
result_of (pointer ws t) = None

-- whether a function of this type takes so many arguments; what is no function takes any number
abbrev pub takes_so_many : CType → ℕ → Bool
takes_so_many (function ws ps r None) n = nat_eq (count_types ps) n
takes_so_many (function ws ps r (Some es)) n = not (nat_lt n (count_types ps))
takes_so_many (base ws) n = true
takes_so_many (void ws) n = true
takes_so_many (struct ws k) n = true
takes_so_many (pointer ws t) n = true
