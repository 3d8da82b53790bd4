-- What numbers of types without annotation words stand for.
use Rattle.std.specs.Prelude.{◌≡◌, ℕ, Bool, false, not, List, [], Option, None, Some}
use Rattle.type_table.specs.declared.row.TypeRow.{TypeRow}
use Rattle.type_table.specs.Types.{CType, base, void}
use Rattle.type_table.specs.Rows.{type_of}
use Rattle.name_rules.specs.Values.{points_to_function, takes}
use Rattle.name_rules.specs.Uses.{text_type}
use Rattle.expr_shapes.specs.declared.plain.Plain.{Plain}

-- the numbers of the base type, of `void` and of the type of a text are right
pub record ArePlain (rows : List TypeRow) (it : Plain) : Type 0 where
  pub base : type_of rows it.base ≡ base []
  pub void : type_of rows it.void ≡ void []
  pub text : type_of rows it.text ≡ text_type

-- what is called is known, and no pointer to a function
abbrev pub is_no_function : Option CType → Bool
is_no_function None = false
is_no_function (Some t) = not (points_to_function t)

-- what is called is known, and does not take so many arguments
abbrev pub lacks_argument : Option CType → ℕ → Bool
lacks_argument None n = false
lacks_argument (Some t) n = not (takes t n)
