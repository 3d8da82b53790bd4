-- What is true of the types of a program's expressions that are found by their places.
use Rattle.std.specs.Prelude.{◌≡◌}
use Rattle.name_rules.specs.Spellings.{Place}
use Rattle.expr_types.specs.declared.types.ExpressionTypes.TheInside.{Inside}
use Rattle.expr_types.specs.Views.{found_at, shape_of_place}

-- what is found at each place is the expression with this key token
abbrev pub AreFound : Inside → Type 0
AreFound s = (at : Place) → found_at s.program.now.rows s.found at ≡ shape_of_place s.program.now at
