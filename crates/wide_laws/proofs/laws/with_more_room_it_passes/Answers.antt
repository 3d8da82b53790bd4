use Rattle.wide_laws.proofs.Units.{with_more_room_it_passes}
use Rattle.wide_laws.proofs.laws.with_more_room_it_passes.Goals as goal

pub returns : goal.returns
returns c = with_more_room_it_passes
