use Rattle.c_parser.specs.UnitForms.Old.{old_turn}
use Rattle.reader_base.proofs.Looping.{is_loop}
use Rattle.c_parser.proofs.unit_forms.old.old_step.Goals as goal

pub returns : goal.returns
returns c = is_loop (old_turn c.args.depth c.args.room) (c.turns_take_tokens.ensures.old_declarations c.args.room)
