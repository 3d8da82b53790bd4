use Rattle.room_laws.proofs.Units.{more_room_is_more}
use Rattle.room_laws.proofs.laws.more_room_is_more.Goals as goal

pub returns : goal.returns
returns c = more_room_is_more
