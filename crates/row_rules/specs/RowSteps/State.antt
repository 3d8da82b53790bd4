-- The stacks by which the skeletons of operands are found along a tape.
use Rattle.std.specs.Prelude.{ℕ, Bool, false, List, [], ◌∷◌, length, drop, take, reverse, ◌-◌, Option, None}
use Rattle.type_table.specs.Types.{CType}
use Rattle.qual_types.specs.Skel.{Skel, no_skeleton}
use Rattle.name_rules.specs.ShapeSteps.State.{OpenDeclaration}
use Rattle.row_rules.specs.Vals.{Val, a_place, value}
use Rattle.row_rules.specs.RowSteps.Rounds.{Rounds, file}

-- an expression, with whether it is a zero, or a type that was named
pub data Operand : Type 0 where
  expression : Val → Bool → Operand
  named_type : Option CType → Operand

-- a part of an initialiser in braces: all of it, with the skeleton that it initialises; a list of nothing; or a list
-- that initialises a skeleton, with whether its next item is the first, the number of the next member, and what the
-- designators of the next item name so far, where it has some
pub data Braces : Type 0 where
  whole : Option Skel → Braces
  untargeted : Braces
  listed : Skel → Bool → ℕ → Option Skel → Braces

-- what is on the stacks at a place of a tape
pub record State : Type 0 where
  pub operands : List Operand
  -- of each initialiser in braces that is not behind us, how many operands are under its own
  pub bases : List ℕ
  pub braces : List Braces
  -- the operands of an initialiser in braces that its items have not taken, in the order of the text
  pub leaves : List Operand
  -- of the compound literal whose items are gone through
  pub literal : Skel
  -- the pointer by which the place was come to that is only addressed
  pub carried : Skel
  -- those that are open, each from its specifiers on
  pub declarations : List OpenDeclaration
  pub rounds : Rounds
  -- how many arguments of a call are behind us
  pub passed : ℕ

-- a unit begins with nothing on any stack
abbrev pub nothing : State
nothing =
    record {
      operands = [];
      bases = [];
      braces = [];
      leaves = [];
      literal = no_skeleton;
      carried = no_skeleton;
      declarations = [];
      rounds = file false;
      passed = 0;
    }

-- the operand on top, a type that is not known where there is none
abbrev pub first_operand : List Operand → Operand
first_operand [] = named_type None
first_operand (it ∷ others) = it

-- place or value, and the skeleton, of an operand; of a type's name none
abbrev pub val_of_operand : Operand → Val
val_of_operand (expression v is_zero) = v
val_of_operand (named_type t) = a_place no_skeleton

-- whether an operand is a zero
abbrev pub is_zero_operand : Operand → Bool
is_zero_operand (expression v is_zero) = is_zero
is_zero_operand (named_type t) = false

-- the type that an operand names
abbrev pub type_of_operand : Operand → Option CType
type_of_operand (expression v is_zero) = None
type_of_operand (named_type t) = t

-- the operand with so many above it
abbrev pub operand_at : ℕ → State → Operand
operand_at n st = first_operand (drop n st.operands)

-- the operand with so many above it, as a place or a value
abbrev pub val_at : ℕ → State → Val
val_at n st = val_of_operand (operand_at n st)

-- the skeleton of the value of the operand with so many above it
abbrev pub value_at : ℕ → State → Skel
value_at n st = value (val_at n st)

-- whether the operand with so many above it is a zero
abbrev pub is_zero_at : ℕ → State → Bool
is_zero_at n st = is_zero_operand (operand_at n st)

-- the type that the operand with so many above it names
abbrev pub type_at : ℕ → State → Option CType
type_at n st = type_of_operand (operand_at n st)

-- so many operands are dropped
abbrev pub dropped : ℕ → State → State
dropped n st = record st { operands = drop n st.operands }

-- an operand takes the place of so many
abbrev pub operand_put : ℕ → Operand → State → State
operand_put n it st = record st { operands = it ∷ drop n st.operands }

-- an expression that is no zero
abbrev pub put : ℕ → Val → State → State
put n v st = operand_put n (expression v false) st

-- initialisers in braces

-- how many operands are under those of the innermost initialiser in braces
abbrev pub first_base : List ℕ → ℕ
first_base [] = 0
first_base (n ∷ bases) = n

-- how many operands are above those under the innermost initialiser in braces
abbrev pub depth_below : State → ℕ
depth_below st = length st.operands - first_base st.bases

-- the operands under those of the innermost initialiser in braces
abbrev pub operands_below : State → List Operand
operands_below st = drop (depth_below st) st.operands

-- the operands of the innermost initialiser in braces, in the order of the text
abbrev pub operands_within : State → List Operand
operands_within st = reverse (take (depth_below st) st.operands)

-- the innermost part of an initialiser that is gone through, or a list that initialises nothing
abbrev pub first_braces : List Braces → Braces
first_braces [] = untargeted
first_braces (it ∷ outer) = it
