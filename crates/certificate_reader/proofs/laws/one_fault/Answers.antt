use Rattle.certificate_reader.proofs.OneFault.{one_fault as no_other}
use Rattle.certificate_reader.proofs.laws.one_fault.Goals as goal

pub returns : goal.returns
returns c = no_other
