use Rattle.certificate_laws.proofs.Writing.{certified_has_written}
use Rattle.certificate_laws.proofs.laws.certified_has_written.Goals as goal

pub returns : goal.returns
returns c = certified_has_written
