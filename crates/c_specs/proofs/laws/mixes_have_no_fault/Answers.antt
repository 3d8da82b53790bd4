use Rattle.c_specs.proofs.OneFault.{mixes_have_no_fault}
use Rattle.c_specs.proofs.laws.mixes_have_no_fault.Goals as goal

pub returns : goal.returns
returns c = mixes_have_no_fault
