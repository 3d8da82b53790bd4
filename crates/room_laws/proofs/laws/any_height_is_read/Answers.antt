use Rattle.room_laws.proofs.Heights.{any_height_is_read}
use Rattle.room_laws.proofs.laws.any_height_is_read.Goals as goal

pub returns : goal.returns
returns c = any_height_is_read c.whole_are_mixes.ensures c.mixes_go_on.ensures
