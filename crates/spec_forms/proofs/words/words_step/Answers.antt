use Rattle.c_reading.specs.Knot.{knot}
use Rattle.c_reading.specs.Specifying.{word_turn}
use Rattle.reader_base.proofs.Looping.{is_loop}
use Rattle.spec_forms.proofs.words.words_step.Goals as goal

pub returns : goal.returns
returns c =
    is_loop (word_turn (knot c.args.depth) c.args.role c.args.room)
    (c.turns_take_tokens.ensures.words c.args.role c.args.room)
