use Rattle.stmt_forms.specs.InBlocks.{item_turn}
use Rattle.reader_base.proofs.Looping.{is_loop}
use Rattle.stmt_forms.proofs.blocks.items_step.Goals as goal

pub returns : goal.returns
returns c = is_loop (item_turn c.args.depth c.args.room) (c.turns_take_tokens.ensures.block_items c.args.room)
