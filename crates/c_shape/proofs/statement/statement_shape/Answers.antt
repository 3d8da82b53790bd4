use Rattle.std.proofs.Common.{sym, ◌∙◌, ap}
use Rattle.c_tree.specs.Lists.{some_expr_from}
use Rattle.c_tree.specs.Tree as tree
use Rattle.c_tree.specs.View.{stmt_of}
use Rattle.c_tree.proofs.ViewLemmas.{block_is, expr_stmt_is, if_is, for_is, return_is}
use Rattle.c_shape.proofs.statement.statement_shape.Goals as goal

pub returns-in-Block : goal.returns-in-Block
returns-in-Block c = let s = c.in-Block in sym (ap stmt_of s.is ∙ block_is s.block)

pub returns-in-ExprStmt : goal.returns-in-ExprStmt
returns-in-ExprStmt c = let s = c.in-ExprStmt in sym (ap stmt_of s.is ∙ expr_stmt_is s.value s.semi)

pub returns-in-If : goal.returns-in-If
returns-in-If c =
    let s = c.in-If in
    sym (ap stmt_of s.is ∙ if_is s.keyword s.«open» s.condition s.close s.body s.otherwise)

-- the form of a `for` shows its start, condition, step and body
pub returns-in-For : goal.returns-in-For
returns-in-For c =
    let s = c.in-For in
    ap (λ (start : tree.ForStart). tree.for_stmt s.keyword s.«open» start (some_expr_from s.condition) s.semi
    (some_expr_from s.step) s.close (stmt_of s.body.value)) c.start_shape.ensures
    ∙ sym (ap stmt_of s.is ∙ for_is s.keyword s.«open» s.start s.condition s.semi s.step s.close s.body)

pub returns-in-Return : goal.returns-in-Return
returns-in-Return c = let s = c.in-Return in sym (ap stmt_of s.is ∙ return_is s.keyword s.value s.semi)
