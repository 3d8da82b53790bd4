use Rattle.c_parser.specs.UnitForms.Listed.{item_turn}
use Rattle.reader_base.proofs.Looping.{is_loop}
use Rattle.c_parser.proofs.unit_forms.units.items_step.Goals as goal

pub returns : goal.returns
returns c = is_loop (item_turn c.args.depth c.args.room) (c.turns_take_tokens.ensures.items c.args.room)
