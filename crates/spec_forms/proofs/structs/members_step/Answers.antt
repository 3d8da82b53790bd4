use Rattle.reader_base.proofs.Looping.{is_loop}
use Rattle.spec_forms.specs.Forms.{member_turn}
use Rattle.spec_forms.proofs.structs.members_step.Goals as goal

pub returns : goal.returns
unfolding member_turn
returns c = is_loop (member_turn c.args.depth c.args.room) (c.turns_take_tokens.ensures.members c.args.room)
