use Rattle.room_laws.proofs.Heights.{any_unit_is_well_formed}
use Rattle.room_laws.proofs.laws.any_unit_is_well_formed.Goals as goal

pub returns : goal.returns
returns c = any_unit_is_well_formed c.whole_are_mixes.ensures c.mixes_go_on.ensures
