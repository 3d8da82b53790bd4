-- What each reader inside owes, the readers of expressions and of initialisers in braces over them owe too.
use Rattle.std.specs.Prelude.{ℕ, suc}
use Rattle.c_reading.specs.Knot.{knot}
use Rattle.c_reading.specs.Expressing.{expr_with}
use Rattle.c_reading.specs.Initialising.{init_list_with}
use Rattle.reading_steps.specs.InnerLaws.{InnerLaws, ExprPlaces, InitListPlaces}

-- what each reader inside owes, the reader of expressions over them owes too
abbrev pub ExprsArePlaced : Type 0
ExprsArePlaced = (n : ℕ) → InnerLaws (suc n) (knot n) → ExprPlaces (suc (suc n)) (expr_with (knot n))

-- what each reader inside owes, the reader of initialisers in braces over them owes too
abbrev pub InitListsArePlaced : Type 0
InitListsArePlaced = (n : ℕ) → InnerLaws (suc n) (knot n) → InitListPlaces (suc (suc n)) (init_list_with (knot n))
