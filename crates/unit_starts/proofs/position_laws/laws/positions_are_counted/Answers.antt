use Rattle.unit_starts.proofs.PositionLaws.Among.{all_counted}
use Rattle.unit_starts.proofs.position_laws.laws.positions_are_counted.Goals as goal

pub returns : goal.returns
returns c = all_counted
