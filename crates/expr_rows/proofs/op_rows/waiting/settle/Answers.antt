use Rattle.c_nodes.specs.Sized.{expr}
use Rattle.expr_rows.proofs.OpRows.Stacks.{settling_goes_on}
use Rattle.expr_rows.proofs.op_rows.waiting.settle.Goals as goal

-- joining the newest with the last operand leaves what joining up to the level gives as it is
pub loop-left-preserved : goal.loop-left-preserved
loop-left-preserved c =
    settling_goes_on c.args.level c.args.waiting.now.items
    (expr c.args.last) c.loop-left.waiting.items c.take_ended.new.waiting.items c.in-Some.left (expr c.loop-left.last)
    (expr c.in_ok-last.last) c.loop-left.invariant c.in-Some.ensures.0 c.in-Some.ensures.1 c.in_ok-last.ensures
