use Rattle.report_laws.proofs.ReadBack.{errors_read_back}
use Rattle.report_laws.proofs.laws.errors_read_back.Goals as goal

pub returns : goal.returns
returns c = errors_read_back
