use Rattle.std.proofs.Common.{vec_len}
use Rattle.c_nodes.specs.Sized.{expr}
use Rattle.expr_rows.proofs.OpRows.Stacks.{IsSettling}
use Rattle.expr_rows.proofs.op_rows.waiting.settle.Given as goal

abbrev pub invariant-loop-left : goal.invariant-loop-left
invariant-loop-left l = IsSettling l.level l.initial.waiting.items (expr l.initial.last) l.waiting.items (expr l.last)

abbrev pub decreases-loop-left : goal.decreases-loop-left
decreases-loop-left l = vec_len l.waiting
