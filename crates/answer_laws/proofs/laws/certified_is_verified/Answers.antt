use Rattle.answer_laws.proofs.Certified.{certified_is_verified}
use Rattle.answer_laws.proofs.laws.certified_is_verified.Goals as goal

pub returns : goal.returns
returns c = certified_is_verified c.programs_are_owned.ensures c.written_reads.ensures
