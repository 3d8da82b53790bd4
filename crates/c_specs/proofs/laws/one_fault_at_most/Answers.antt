use Rattle.c_specs.proofs.OneFault.{one_fault_at_most}
use Rattle.c_specs.proofs.laws.one_fault_at_most.Goals as goal

pub returns : goal.returns
returns c = one_fault_at_most
