-- Expressions behind `__extension__` again and again.
use Rattle.std.specs.Prelude.{ℕ, List, [], ◌∷◌}
use Rattle.c_tree.specs.Tree.{Expr, extension}

-- the first token stands outermost
abbrev pub extended : List ℕ → Expr → Expr
extended [] e = e
extended (token ∷ tokens) e = extension token (extended tokens e)
