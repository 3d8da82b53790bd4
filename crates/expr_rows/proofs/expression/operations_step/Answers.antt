use Rattle.c_reading.specs.Expressing.{operation_turn}
use Rattle.c_reading.specs.Knot.{knot}
use Rattle.reader_base.proofs.Looping.{is_loop}
use Rattle.expr_rows.proofs.expression.operations_step.Goals as goal

pub returns : goal.returns
returns c =
    is_loop (operation_turn (knot c.args.depth) c.args.reach c.args.room)
    (c.turns_take_tokens.ensures.operations c.args.reach c.args.room)
