use Rattle.certificate_reader.proofs.Once.{reads_once as only_once}
use Rattle.certificate_reader.proofs.laws.reads_once.Goals as goal

pub returns : goal.returns
returns c = only_once
