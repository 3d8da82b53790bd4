use Rattle.c_reading.proofs.UnitsRead.{unit_is_well_formed}
use Rattle.c_reading.proofs.laws.unit_is_well_formed.Goals as goal

pub returns : goal.returns
returns c = unit_is_well_formed c.whole_are_mixes.ensures c.mixes_go_on.ensures
