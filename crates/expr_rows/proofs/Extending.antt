-- Operands behind `__extension__`.
use Rattle.std.proofs.Common.{◌≡◌, ℕ, List, [], ◌∷◌, refl, ap}
use Rattle.c_tree.specs.Tree.{Expr, extension}
use Rattle.c_nodes.specs.Extended as nodes
use Rattle.c_reading.specs.Expressing.{extended}

pub extended_same : (tokens : List ℕ) (e : Expr) → nodes.extended tokens e ≡ extended tokens e
extended_same [] e = refl
extended_same (token ∷ tokens) e = ap (extension token) (extended_same tokens e)
