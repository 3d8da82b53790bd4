use Rattle.c_reading.specs.Reading.{repeated_turn}
use Rattle.c_reading.specs.Expressing.{begins_desig}
use Rattle.c_reading.specs.Initialising.{desig_with}
use Rattle.c_reading.specs.Knot.{knot}
use Rattle.reader_base.proofs.Looping.{is_loop}
use Rattle.decl_forms.proofs.init_forms.designators.desigs_step.Goals as goal

-- turns that read designators are those of a loop
pub returns : goal.returns
returns c =
    is_loop (repeated_turn begins_desig (desig_with (knot c.args.depth) c.args.room))
    (c.turns_take_tokens.ensures.desigs c.args.room)
