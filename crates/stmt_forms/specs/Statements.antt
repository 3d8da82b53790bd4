-- Readers of statements at a number of the knot, and what those of the program give beside them.
use Rattle.std.specs.Prelude.{ℕ, Result}
use Rattle.c_tree.specs.Lists.{some_expr_from, some_else_from}
use Rattle.c_tree.specs.Tree as trees
use Rattle.c_tree.specs.Tree.{Stmt}
use Rattle.c_tree.specs.View.{declaration_of, for_start_of}
use Rattle.c_nodes.specs.declared.sized.SizedSomeExpr.{SizedSomeExpr}
use Rattle.c_nodes.specs.declared.sized.SizedElse.{SizedElse}
use Rattle.c_nodes.specs.declared.sized.SizedStart.{SizedStart}
use Rattle.c_nodes.specs.declared.sized.SizedDeclaration.{SizedDeclaration}
use Rattle.c_reading.specs.Reading.{Reader, ◌>>=◌, ends, fits, take_one}
use Rattle.c_reading.specs.Stating.{in_own, if_inside, headed_inside, do_inside, for_inside}
use Rattle.c_reading.specs.Knot.{knot}
use Rattle.reader_base.specs.declared.fault.ReadError.{ReadError}
use Rattle.reader_base.specs.declared.cursor.Cursor.{Cursor}
use Rattle.reader_base.specs.Gives.{Reads}

-- an expression that may be left out is read as the reader of lists gives it
abbrev pub ReadsSomeExpr : Cursor → Cursor → Result SizedSomeExpr ReadError → Reader trees.SomeExpr → Type 0
ReadsSomeExpr before after result reader = Reads (λ x. some_expr_from x.tree) before after result reader

-- the `else` of an `if`, if any, is read so
abbrev pub ReadsElse : Cursor → Cursor → Result SizedElse ReadError → Reader trees.SomeElse → Type 0
ReadsElse before after result reader = Reads (λ x. some_else_from x.other) before after result reader

-- the first clause of a `for` is read so
abbrev pub ReadsStart : Cursor → Cursor → Result SizedStart ReadError → Reader trees.ForStart → Type 0
ReadsStart before after result reader = Reads (λ x. for_start_of x.start) before after result reader

-- a declaration is read so
abbrev pub ReadsDeclaration : Cursor → Cursor → Result SizedDeclaration ReadError → Reader trees.Declaration → Type 0
ReadsDeclaration before after result reader = Reads (λ x. declaration_of x.tree.value) before after result reader

-- ;  alone
abbrev pub null_with : ℕ → Reader Stmt
null_with room s ts =
    fits 1 room ts (take_one s ts >>= λ semi. ends (trees.expr_stmt trees.no_expr semi.tree) semi.scopes semi.rest)

-- If = if ( expr ) stmt [else stmt], in a scope of its own
abbrev pub if_with : ℕ → ℕ → Reader Stmt
if_with depth room s ts = fits 2 room ts (in_own (if_inside (knot depth) room) s ts)

-- Switch = switch ( expr ) stmt, in a scope of its own
abbrev pub switch_with : ℕ → ℕ → Reader Stmt
switch_with depth room s ts = fits 2 room ts (in_own (headed_inside (knot depth) trees.switch_stmt room) s ts)

-- While = while ( expr ) stmt, in a scope of its own
abbrev pub while_with : ℕ → ℕ → Reader Stmt
while_with depth room s ts = fits 2 room ts (in_own (headed_inside (knot depth) trees.while_stmt room) s ts)

-- Do = do stmt while ( expr ) ; , in a scope of its own
abbrev pub do_with : ℕ → ℕ → Reader Stmt
do_with depth room s ts = fits 2 room ts (in_own (do_inside (knot depth) room) s ts)

-- For = for ( (Declaration | [expr] ;) [expr] ; [expr] ) stmt, in a scope of its own
abbrev pub for_with : ℕ → ℕ → Reader Stmt
for_with depth room s ts = fits 2 room ts (in_own (for_inside (knot depth) room) s ts)
