-- The stacks of the loop, as lists of what the program has on them, each with the innermost first.
use Rattle.std.specs.Prelude.{ℕ, nat_eq, Bool, false, List, [], ◌∷◌, None}
use Rattle.expr_shapes.specs.declared.shape_stacks.stacks.Operand.{Operand}
use Rattle.expr_shapes.specs.declared.shape_stacks.stacks.Braces.{Braces}
use Rattle.expr_shapes.specs.declared.shape_stacks.stacks.Braces.TheVariants as braces
use Rattle.expr_shapes.specs.declared.shape_stacks.stacks.OpenDeclaration.{OpenDeclaration}

-- what is on the stacks at a place of a tape
pub record Stacked : Type 0 where
  pub operands : List Operand
  pub bases : List ℕ
  pub braces : List Braces
  pub declarations : List OpenDeclaration

-- a list with this in place of its first
abbrev pub with_first : {A : Type 0} → A → List A → List A
with_first it [] = []
with_first it (x ∷ xs) = it ∷ xs

-- whether the next member is the last that has a number
abbrev pub is_last : Braces → Bool
is_last (braces.Whole ty) = false
is_last braces.Untargeted = false
is_last (braces.Listed ty is_first next named) = nat_eq next 18446744073709551615

-- a declaration of which no name was read
abbrev pub no_declaration : OpenDeclaration
no_declaration = record { name = None; declared = None }

-- a unit begins with nothing on any stack
abbrev pub nothing : Stacked
nothing = record { operands = []; bases = []; braces = []; declarations = [] }
