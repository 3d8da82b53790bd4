use Rattle.std.proofs.Common.{◌≡◌, ◌++◌, OnOk, subst, ap, ◌∙◌}
use Rattle.c_tape.specs.Tape.{block_item_tape, stmt_tape}
use Rattle.c_tree.specs.View.{block_item_of, stmt_of}
use Rattle.c_tape.proofs.NodeLemmas.{stmt_item_is}
use Rattle.c_tape.proofs.TodoLemmas.{as_tree}
use Rattle.c_tape.proofs.statement.block_item.Goals as goal

-- a block item that is a statement goes before what is to do, with the statement's own tape
pub returns-in-Stmt : goal.returns-in-Stmt
returns-in-Stmt c =
    let same : c.deref-in-Stmt.result.now ≡ c.in-Stmt.s.value = c.deref-in-Stmt.ensures in
    as_tree (λ t. OnOk c.expand_stmt.result (c.expand_stmt.new.todo ≡ block_item_tape c.args.is_kept t
    ++ c.args.todo.now)) _ _ (ap block_item_of c.in-Stmt.is ∙ stmt_item_is c.in-Stmt.s)
    (subst (λ v. OnOk c.expand_stmt.result
    (c.expand_stmt.new.todo ≡ stmt_tape c.args.is_kept (stmt_of v) ++ c.args.todo.now)) same c.expand_stmt.ensures)
