-- The trees of sized statements.
use Rattle.std.specs.Prelude.{◌≡◌, Result, IfOk}
use Rattle.qual_base.specs.declared.faults.NoMemory.{NoMemory}
use Rattle.c_nodes.specs.declared.sized.SizedStmt.{SizedStmt}
use Rattle.c_tree.specs.Tree.{Stmt}
use Rattle.c_tree.specs.View.{stmt_of}

-- the tree of a sized statement
abbrev pub stmt : SizedStmt → Stmt
stmt s = stmt_of s.tree.value

-- where there is memory, the tree is this
abbrev pub MakesStmt : Result SizedStmt NoMemory → Stmt → Type 0
MakesStmt result tree = IfOk result (λ made. stmt made ≡ tree)
