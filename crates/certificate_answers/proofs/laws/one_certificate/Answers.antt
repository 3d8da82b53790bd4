use Rattle.certificate_answers.proofs.Same.{one_certificate}
use Rattle.certificate_answers.proofs.laws.one_certificate.Goals as goal

pub returns : goal.returns
returns c = one_certificate
