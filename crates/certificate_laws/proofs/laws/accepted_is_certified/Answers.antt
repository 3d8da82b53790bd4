use Rattle.certificate_laws.proofs.Writing.{accepted_is_certified}
use Rattle.certificate_laws.proofs.laws.accepted_is_certified.Goals as goal

pub returns : goal.returns
returns c = accepted_is_certified
