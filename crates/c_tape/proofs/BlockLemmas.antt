-- The last item of a block, and the number of arguments.
use Rattle.std.proofs.Common.{◌≡◌, suc, List, [], ◌∷◌, ◌++◌, length, refl, ap}
use Rattle.c_syntax.specs.declared.expression.Expr as rust_expr
use Rattle.c_syntax.specs.declared.statement.BlockItem as rust_block_item
use Rattle.c_tree.specs.View.{block_item_of}
use Rattle.c_tree.specs.Unit.{block_items_from}
use Rattle.c_tree.specs.Lists.{exprs_from}
use Rattle.c_tape.specs.Tape.{count}
use Rattle.c_tape.specs.Tests.{ends_in_value, is_value_item}

-- a block ends in a value where its last item is one
pub ends_as_last : (items : List rust_block_item.BlockItem) (item : rust_block_item.BlockItem)
    → ends_in_value (block_items_from (items ++ item ∷ [])) ≡ is_value_item (block_item_of item)
ends_as_last [] item = refl
ends_as_last (x ∷ []) item = refl
ends_as_last (x ∷ y ∷ items) item = ends_as_last (y ∷ items) item

pub count_is : (es : List rust_expr.Expr) → length es ≡ count (exprs_from es)
count_is [] = refl
count_is (e ∷ es) = ap suc (count_is es)
