use Rattle.certificate_answers.proofs.Reading.{written_reads}
use Rattle.certificate_answers.proofs.laws.written_reads.Goals as goal

pub returns : goal.returns
returns c = written_reads
