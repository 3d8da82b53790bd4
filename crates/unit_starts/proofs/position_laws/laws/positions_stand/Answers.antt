use Rattle.unit_starts.proofs.PositionLaws.Among.{stand}
use Rattle.unit_starts.proofs.position_laws.laws.positions_stand.Goals as goal

pub returns : goal.returns
returns c = stand
