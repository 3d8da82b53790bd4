use Rattle.c_reading.specs.Reading.{comma_turn}
use Rattle.c_reading.specs.Initialising.{next_init_item}
use Rattle.c_reading.specs.Knot.{knot}
use Rattle.reader_base.proofs.Looping.{is_loop}
use Rattle.decl_forms.proofs.init_forms.lists.items_step.Goals as goal

-- turns that read items of a braced initialiser are those of a loop
pub returns : goal.returns
returns c =
    is_loop (comma_turn (next_init_item (knot c.args.depth) c.args.room))
    (c.turns_take_tokens.ensures.init_items c.args.room)
