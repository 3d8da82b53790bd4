use Rattle.expr_forms.specs.Parts.{argument_turn}
use Rattle.reader_base.proofs.Looping.{is_loop}
use Rattle.expr_forms.proofs.arguments.arguments_step.Goals as goal

pub returns : goal.returns
unfolding argument_turn
returns c = is_loop (argument_turn c.args.depth c.args.room) (c.turns_take_tokens.ensures.arguments c.args.room)
