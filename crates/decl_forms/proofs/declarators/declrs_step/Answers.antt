use Rattle.decl_forms.specs.Listed.{declrs_turn}
use Rattle.reader_base.proofs.Looping.{is_loop}
use Rattle.decl_forms.proofs.declarators.declrs_step.Goals as goal

pub returns : goal.returns
unfolding declrs_turn
returns c =
    is_loop (declrs_turn c.args.depth c.args.kind c.args.room)
    (c.turns_take_tokens.ensures.declrs c.args.kind c.args.room)
