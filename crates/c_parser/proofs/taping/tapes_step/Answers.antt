use Rattle.c_parser.specs.Taping.{tape_turn}
use Rattle.c_parser.proofs.TapeOfItems.{tape_takes}
use Rattle.reader_base.proofs.Looping.{is_loop}
use Rattle.c_parser.proofs.taping.tapes_step.Goals as goal

pub returns : goal.returns
returns c =
    is_loop (tape_turn c.args.depth c.args.room)
    (tape_takes c.args.depth c.args.room (c.turns_take_tokens.ensures.items c.args.room))
