-- The state that the stacks stand for, with the types of a table in place of their numbers.
use Rattle.std.specs.Prelude.{ℕ, List, map, Option, Some, None}
use Rattle.type_table.specs.declared.row.TypeRow.{TypeRow}
use Rattle.type_table.specs.Types.{CType}
use Rattle.expr_shapes.specs.ShapeValues.Views.{shape_in, some_type}
use Rattle.name_rules.specs.ShapeSteps.State as states
use Rattle.name_rules.specs.ShapeSteps.State.{expression, named_type, whole, untargeted, listed}
use Rattle.expr_shapes.specs.declared.shape_stacks.stacks.Operand.{Operand}
use Rattle.expr_shapes.specs.declared.shape_stacks.stacks.Operand.TheVariants as operands
use Rattle.expr_shapes.specs.declared.shape_stacks.stacks.Braces.{Braces}
use Rattle.expr_shapes.specs.declared.shape_stacks.stacks.Braces.TheVariants as braces
use Rattle.expr_shapes.specs.declared.shape_stacks.stacks.OpenDeclaration.{OpenDeclaration}
use Rattle.expr_shapes.specs.ShapeStacks.Stacked.{Stacked}

-- an operand, with its type in place of the type's number
abbrev pub operand_in : List TypeRow → Operand → states.Operand
operand_in rows (operands.Expression shape is_zero) = expression (shape_in rows shape) is_zero
operand_in rows (operands.NamedType ty) = named_type (some_type rows ty)

-- the type of what designators name so far, where there are some and it is known
abbrev pub some_named : List TypeRow → Option (Option ℕ) → Option (Option CType)
some_named rows None = None
some_named rows (Some ty) = Some (some_type rows ty)

-- a part of an initialiser in braces, with types in place of their numbers
abbrev pub braces_in : List TypeRow → Braces → states.Braces
braces_in rows (braces.Whole ty) = whole (some_type rows ty)
braces_in rows braces.Untargeted = untargeted
braces_in rows (braces.Listed ty is_first next named) = listed (some_type rows ty) is_first next (some_named rows named)

-- an open declaration, as the definitions have it
abbrev pub open_as : OpenDeclaration → states.OpenDeclaration
open_as it = record { name = it.name; declared = it.declared }

-- what is on the stacks, with types in place of their numbers
abbrev pub state_in : List TypeRow → Stacked → states.State
state_in rows st =
    record {
      operands = map (operand_in rows) st.operands;
      bases = st.bases;
      braces = map (braces_in rows) st.braces;
      declarations = map open_as st.declarations;
    }
