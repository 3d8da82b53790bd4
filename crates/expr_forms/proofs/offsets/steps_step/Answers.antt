use Rattle.expr_forms.specs.Parts.{step_turn}
use Rattle.reader_base.proofs.Looping.{is_loop}
use Rattle.expr_forms.proofs.offsets.steps_step.Goals as goal

pub returns : goal.returns
returns c = is_loop (step_turn c.args.depth c.args.room) (c.turns_take_tokens.ensures.steps c.args.room)
