use Rattle.c_reading.specs.Declaring.{suffix_turn}
use Rattle.c_reading.specs.Knot.{knot}
use Rattle.reader_base.proofs.Looping.{is_loop}
use Rattle.declr_forms.proofs.suffixes.suffixes_step.Goals as goal

-- turns that read brackets or parameters behind a declarator are those of a loop
pub returns : goal.returns
returns c =
    is_loop (suffix_turn (knot c.args.depth) c.args.flag c.args.room)
    (c.turns_take_tokens.ensures.suffixes c.args.flag c.args.room)
