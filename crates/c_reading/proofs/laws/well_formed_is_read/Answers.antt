use Rattle.c_reading.proofs.UnitsRead.{well_formed_is_read}
use Rattle.c_reading.proofs.laws.well_formed_is_read.Goals as goal

pub returns : goal.returns
returns c = well_formed_is_read c.whole_are_mixes.ensures c.mixes_go_on.ensures
