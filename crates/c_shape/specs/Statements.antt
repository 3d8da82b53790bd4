-- The tree of a statement's shape.
use Rattle.c_tree.specs.Tree.{Stmt, block, expr_stmt, attr_stmt, label, case_stmt, default_stmt, if_stmt, switch_stmt, while_stmt, do_stmt, for_stmt, goto_stmt, continue_stmt, break_stmt, return_stmt, asm_stmt, ForStart, start_declaration, start_value, case_range, goto_value}
use Rattle.c_tree.specs.Lists.{some_expr_from, some_else_from}
use Rattle.c_tree.specs.Unit.{block_items_from}
use Rattle.c_tree.specs.View.{expr_of, stmt_of, declaration_of}
use Rattle.c_shape.specs.declared.statement.StartShape.{StartShape}
use Rattle.c_shape.specs.declared.statement.StartShape.TheVariants as starts
use Rattle.c_shape.specs.declared.statement.StatementShape.{StatementShape}
use Rattle.c_shape.specs.declared.statement.StatementShape.TheVariants as shapes

-- how a `for` begins
abbrev pub start_shaped : StartShape → ForStart
start_shaped (starts.Declaration d) = start_declaration (declaration_of d.now.value)
start_shaped (starts.Value e semi) = start_value (some_expr_from e.now) semi

-- the statement that is made of the parts of a shape
abbrev pub statement_shaped : StatementShape → Stmt
statement_shaped (shapes.Block opening items closing) = block opening (block_items_from items.now.items) closing
statement_shaped (shapes.ExprStmt e semi) = expr_stmt (some_expr_from e.now) semi
statement_shaped (shapes.AttrStmt attrs semi) = attr_stmt attrs.now.items semi
statement_shaped (shapes.Label name colon attrs s) = label name colon attrs.now.items (stmt_of s.now.value)
statement_shaped (shapes.Case keyword e colon s) = case_stmt keyword (expr_of e.now.value) colon (stmt_of s.now.value)
statement_shaped (shapes.Default keyword colon s) = default_stmt keyword colon (stmt_of s.now.value)
statement_shaped (shapes.If keyword opening e closing s other) =
    if_stmt keyword opening (expr_of e.now.value) closing (stmt_of s.now.value) (some_else_from other.now)
statement_shaped (shapes.Switch keyword opening e closing s) =
    switch_stmt keyword opening (expr_of e.now.value) closing (stmt_of s.now.value)
statement_shaped (shapes.While keyword opening e closing s) =
    while_stmt keyword opening (expr_of e.now.value) closing (stmt_of s.now.value)
statement_shaped (shapes.Do keyword s keyword2 opening e closing semi) =
    do_stmt keyword (stmt_of s.now.value) keyword2 opening (expr_of e.now.value) closing semi
statement_shaped (shapes.For keyword opening start e semi e2 closing s) =
    for_stmt keyword opening (start_shaped start) (some_expr_from e.now) semi (some_expr_from e2.now) closing
    (stmt_of s.now.value)
statement_shaped (shapes.Goto keyword name semi) = goto_stmt keyword name semi
statement_shaped (shapes.Continue keyword semi) = continue_stmt keyword semi
statement_shaped (shapes.Break keyword semi) = break_stmt keyword semi
statement_shaped (shapes.Return keyword e semi) = return_stmt keyword (some_expr_from e.now) semi
statement_shaped (shapes.Asm keyword words group semi) = asm_stmt keyword words.now.items group semi
statement_shaped (shapes.CaseRange keyword e dots e2 colon s) =
    case_range keyword (expr_of e.now.value) dots (expr_of e2.now.value) colon (stmt_of s.now.value)
statement_shaped (shapes.GotoValue keyword star e semi) = goto_value keyword star (expr_of e.now.value) semi
