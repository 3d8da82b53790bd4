use Rattle.report_laws.proofs.Whole.{rejected_reads_back}
use Rattle.report_laws.proofs.laws.rejected_reads_back.Goals as goal

pub returns : goal.returns
returns c = rejected_reads_back
