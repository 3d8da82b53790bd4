use Rattle.reader_base.proofs.Looping.{is_loop}
use Rattle.spec_forms.specs.Forms.{struct_item_turn}
use Rattle.spec_forms.proofs.structs.items_step.Goals as goal

pub returns : goal.returns
unfolding struct_item_turn
returns c = is_loop (struct_item_turn c.args.depth c.args.room) (c.turns_take_tokens.ensures.struct_items c.args.room)
