use Rattle.c_reading.proofs.UnitsRead.{one_unit_at_most}
use Rattle.c_reading.proofs.laws.one_unit_at_most.Goals as goal

pub returns : goal.returns
returns c = one_unit_at_most c.whole_are_mixes.ensures c.mixes_go_on.ensures
