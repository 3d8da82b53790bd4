use Rattle.reader_base.proofs.Looping.{is_loop}
use Rattle.spec_forms.specs.Forms.{enumerator_turn}
use Rattle.spec_forms.proofs.enums.enumerators_step.Goals as goal

pub returns : goal.returns
unfolding enumerator_turn
returns c = is_loop (enumerator_turn c.args.depth c.args.room) (c.turns_take_tokens.ensures.enumerators c.args.room)
