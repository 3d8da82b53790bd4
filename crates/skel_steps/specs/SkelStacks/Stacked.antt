-- The stacks of the loop, as lists of what the program has on them, each with the innermost first.
use Rattle.std.specs.Prelude.{ℕ, nat_eq, Bool, false, List, [], Option, None}
use Rattle.expr_shapes.specs.declared.shape_stacks.stacks.OpenDeclaration.{OpenDeclaration}
use Rattle.row_rules.specs.RowSteps.Rounds.{Rounds, file}
use Rattle.skel_steps.specs.declared.skel_stacks.stacks.Operand.{Operand}
use Rattle.skel_steps.specs.declared.skel_stacks.stacks.Braces.{Braces}
use Rattle.skel_steps.specs.declared.skel_stacks.stacks.Braces.TheVariants as braces

-- what is on the stacks at a place of a tape, skeletons and types by their numbers
pub record Stacked : Type 0 where
  pub operands : List Operand
  pub bases : List ℕ
  pub braces : List Braces
  pub leaves : List Operand
  pub literal : Option ℕ
  pub carried : Option ℕ
  pub declarations : List OpenDeclaration
  pub rounds : Rounds
  pub passed : ℕ

-- whether the next member is the last that has a number
abbrev pub is_last : Braces → Bool
is_last (braces.Whole skel) = false
is_last braces.Untargeted = false
is_last (braces.Listed skel is_first next named) = nat_eq next 18446744073709551615

-- a unit begins with nothing on any stack
abbrev pub nothing : Stacked
nothing =
    record {
      operands = [];
      bases = [];
      braces = [];
      leaves = [];
      literal = None;
      carried = None;
      declarations = [];
      rounds = file false;
      passed = 0;
    }
