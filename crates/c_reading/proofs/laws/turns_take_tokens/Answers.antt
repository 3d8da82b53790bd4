use Rattle.c_reading.proofs.TurnsShown.{turns_take_tokens}
use Rattle.c_reading.proofs.laws.turns_take_tokens.Goals as goal

pub returns : goal.returns
returns c = turns_take_tokens c.whole_are_mixes.ensures c.mixes_go_on.ensures c.args.number
