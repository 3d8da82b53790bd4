-- The state that the stacks stand for, with skeletons and types in place of their numbers in two tables.
use Rattle.std.specs.Prelude.{ℕ, List, map, Option, Some, None, option_map}
use Rattle.type_table.specs.declared.row.TypeRow.{TypeRow}
use Rattle.type_table.specs.Types.{CType}
use Rattle.type_table.specs.Rows.{type_of}
use Rattle.qual_types.specs.declared.row.VarRow as variables
use Rattle.qual_types.specs.Skel.{Skel, no_skeleton}
use Rattle.qual_types.specs.Rows.{skel_of}
use Rattle.expr_shapes.specs.ShapeStacks.Views.{open_as}
use Rattle.row_rules.specs.RowSteps.State as states
use Rattle.row_rules.specs.RowSteps.State.{expression, named_type, whole, untargeted, listed}
use Rattle.row_world.specs.Shown.{val_in}
use Rattle.skel_steps.specs.declared.skel_stacks.stacks.Operand.{Operand}
use Rattle.skel_steps.specs.declared.skel_stacks.stacks.Operand.TheVariants as operands
use Rattle.skel_steps.specs.declared.skel_stacks.stacks.Braces.{Braces}
use Rattle.skel_steps.specs.declared.skel_stacks.stacks.Braces.TheVariants as braces
use Rattle.skel_steps.specs.SkelStacks.Stacked.{Stacked}

-- the rows of the table of qualifier variables, and those of the table of types
pub record Tables : Type 0 where
  pub variables : List variables.VarRow
  pub types : List TypeRow

-- a table of qualifier variables and a table of types
abbrev pub tables : List variables.VarRow → List TypeRow → Tables
tables variables types = record { variables = variables; types = types }

-- the skeleton of a number
abbrev pub skel_in : Tables → ℕ → Skel
skel_in t n = skel_of t.variables n

-- the type of a number
abbrev pub type_in : Tables → ℕ → CType
type_in t n = type_of t.types n

-- an operand, with its skeleton or type in place of the number
abbrev pub operand_in : Tables → Operand → states.Operand
operand_in t (operands.Expression v is_zero) = expression (val_in t.variables v) is_zero
operand_in t (operands.NamedType ty) = named_type (option_map (type_in t) ty)

-- a part of an initialiser in braces, with skeletons in place of their numbers
abbrev pub braces_in : Tables → Braces → states.Braces
braces_in t (braces.Whole skel) = whole (option_map (skel_in t) skel)
braces_in t braces.Untargeted = untargeted
braces_in t (braces.Listed skel is_first next named) =
    listed (skel_in t skel) is_first next (option_map (skel_in t) named)

-- the skeleton of a compound literal or of a pointer that was noted; before there is one, no skeleton
abbrev pub literal_in : Tables → Option ℕ → Skel
literal_in t None = no_skeleton
literal_in t (Some n) = skel_in t n

-- what is on the stacks, with skeletons and types in place of their numbers
abbrev pub state_in : Tables → Stacked → states.State
state_in t st =
    record {
      operands = map (operand_in t) st.operands;
      bases = st.bases;
      braces = map (braces_in t) st.braces;
      leaves = map (operand_in t) st.leaves;
      literal = literal_in t st.literal;
      carried = literal_in t st.carried;
      declarations = map open_as st.declarations;
      rounds = st.rounds;
      passed = st.passed;
    }
