use Rattle.c_reading.specs.Reading.{comma_turn}
use Rattle.c_reading.specs.Declaring.{next_param}
use Rattle.c_reading.specs.Knot.{knot}
use Rattle.reader_base.proofs.Looping.{is_loop}
use Rattle.declr_forms.proofs.parameters.params_step.Goals as goal

-- turns that read parameters behind commas are those of a loop
pub returns : goal.returns
returns c =
    is_loop (comma_turn (next_param (knot c.args.depth) c.args.room))
    (c.turns_take_tokens.ensures.params c.args.room)
