use Rattle.expr_forms.specs.Picks.{assoc_turn}
use Rattle.reader_base.proofs.Looping.{is_loop}
use Rattle.expr_forms.proofs.picks.assocs_step.Goals as goal

pub returns : goal.returns
unfolding assoc_turn
returns c = is_loop (assoc_turn c.args.depth c.args.room) (c.turns_take_tokens.ensures.associations c.args.room)
