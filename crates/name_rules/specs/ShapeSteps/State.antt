-- What is kept while a tape is gone through: stacks, each with the innermost first.
use Rattle.std.specs.Prelude.{ℕ, ◌-◌, Bool, false, List, [], ◌∷◌, length, drop, Option, None, Some}
use Rattle.type_table.specs.Types.{CType}
use Rattle.name_rules.specs.Values.{Shape, a_place, value}

-- an operand of what comes
pub data Operand : Type 0 where
  -- an expression: its shape, and whether it is a zero
  expression : Shape → Bool → Operand
  -- a type that was named, or that of a member in an offset
  named_type : Option CType → Operand

-- a part of an initialiser in braces that is gone through
pub data Braces : Type 0 where
  -- all of it: what it initialises is of this type
  whole : Option CType → Braces
  -- a list that initialises nothing
  untargeted : Braces
  -- a list that initialises something of this type: whether its next item is the first, the number of the next member,
  -- and what the designators of the next item name so far, where it has some
  listed : Option CType → Bool → ℕ → Option (Option CType) → Braces

-- a declaration, by the tokens of two names, where there are any: that of the declarator that is read, and the one that
-- was declared last
pub record OpenDeclaration : Type 0 where
  pub name : Option ℕ
  pub declared : Option ℕ

-- what is on the stacks at a place of a tape
pub record State : Type 0 where
  pub operands : List Operand
  -- of each initialiser in braces that is not behind us, how many operands are under its own
  pub bases : List ℕ
  pub braces : List Braces
  -- those that are open, each from its specifiers on
  pub declarations : List OpenDeclaration

-- a unit begins and ends with nothing on any stack
abbrev pub nothing : State
nothing = record { operands = []; bases = []; braces = []; declarations = [] }

-- the operand on top, a type that is not known where there is none
abbrev pub first_operand : List Operand → Operand
first_operand [] = named_type None
first_operand (it ∷ others) = it

-- place or value, and the type, of an operand; of a type's name not known
abbrev pub shape_of_operand : Operand → Shape
shape_of_operand (expression shape is_zero) = shape
shape_of_operand (named_type t) = a_place None

-- whether an operand is a zero
abbrev pub is_zero_operand : Operand → Bool
is_zero_operand (expression shape is_zero) = is_zero
is_zero_operand (named_type t) = false

-- the type that an operand names
abbrev pub type_of_operand : Operand → Option CType
type_of_operand (expression shape is_zero) = None
type_of_operand (named_type t) = t

-- the operand with so many above it
abbrev pub operand_at : ℕ → State → Operand
operand_at n st = first_operand (drop n st.operands)

-- place or value, and the type, of the operand with so many above it
abbrev pub shape_at : ℕ → State → Shape
shape_at n st = shape_of_operand (operand_at n st)

-- the type of the value of the operand with so many above it
abbrev pub value_at : ℕ → State → Option CType
value_at n st = value (shape_at n st)

-- whether the operand with so many above it is a zero
abbrev pub is_zero_at : ℕ → State → Bool
is_zero_at n st = is_zero_operand (operand_at n st)

-- the type that the operand with so many above it names
abbrev pub type_at : ℕ → State → Option CType
type_at n st = type_of_operand (operand_at n st)

-- so many operands are dropped
abbrev pub dropped : ℕ → State → State
dropped n st = record st { operands = drop n st.operands }

-- an operand takes the place of so many
abbrev pub operand_put : ℕ → Operand → State → State
operand_put n it st = record st { operands = it ∷ drop n st.operands }

-- an expression that is no zero
abbrev pub put : ℕ → Shape → State → State
put n shape st = operand_put n (expression shape false) st

-- the innermost of what is begun, or nothing

-- the innermost of a list is changed
abbrev pub changed : {A : Type 0} → (A → A) → List A → List A
changed change [] = []
changed change (it ∷ outer) = change it ∷ outer

-- what is around the innermost of a list
abbrev pub without_innermost : {A : Type 0} → List A → List A
without_innermost [] = []
without_innermost (it ∷ outer) = outer

-- initialisers in braces

-- how many operands are under those of the innermost initialiser in braces
abbrev pub first_base : List ℕ → ℕ
first_base [] = 0
first_base (n ∷ bases) = n

-- how many operands are above those under the innermost initialiser in braces
abbrev pub depth_below : State → ℕ
depth_below st = length st.operands - first_base st.bases

-- the operands under those of the innermost initialiser in braces
abbrev pub operands_below : State → List Operand
operands_below st = drop (depth_below st) st.operands

-- the innermost part of an initialiser that is gone through, or a list that initialises nothing
abbrev pub first_braces : List Braces → Braces
first_braces [] = untargeted
first_braces (it ∷ outer) = it

-- declarations

-- the open declarations are changed
abbrev pub with_declarations : (List OpenDeclaration → List OpenDeclaration) → State → State
with_declarations change st = record st { declarations = change st.declarations }

-- a declaration begins, at the end of its specifiers
abbrev pub opened : State → State
opened st = record st { declarations = record { name = None; declared = None } ∷ st.declarations }

-- the innermost declaration ends
abbrev pub closed : State → State
closed st = record st { declarations = without_innermost st.declarations }

-- the name that the innermost declaration declared last
abbrev pub declared_last : List OpenDeclaration → Option ℕ
declared_last [] = None
declared_last (it ∷ outer) = it.declared

-- the declarator that is read has this name
abbrev pub with_name : ℕ → OpenDeclaration → OpenDeclaration
with_name token it = record it { name = Some token }

-- a declaration behind a declarator, whose name is declared
abbrev pub with_declared : OpenDeclaration → OpenDeclaration
with_declared it = record { name = None; declared = it.name }

-- a declaration behind a declarator, whose name is a member's
abbrev pub without_name : OpenDeclaration → OpenDeclaration
without_name it = record it { name = None }
