use Rattle.certificate_laws.proofs.CertAccepting.{certified_is_accepted}
use Rattle.certificate_laws.proofs.laws.certified_is_accepted.Goals as goal

pub returns : goal.returns
returns c = certified_is_accepted
