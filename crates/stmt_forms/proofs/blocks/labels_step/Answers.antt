use Rattle.stmt_forms.specs.InBlocks.{label_turn}
use Rattle.reader_base.proofs.Looping.{is_loop}
use Rattle.stmt_forms.proofs.blocks.labels_step.Goals as goal

pub returns : goal.returns
returns c = is_loop (label_turn c.args.depth c.args.room) (c.turns_take_tokens.ensures.labels c.args.room)
