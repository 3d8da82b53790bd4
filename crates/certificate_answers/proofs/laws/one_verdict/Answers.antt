use Rattle.certificate_answers.proofs.Verdicts.{one_verdict}
use Rattle.certificate_answers.proofs.laws.one_verdict.Goals as goal

pub returns : goal.returns
returns c = one_verdict c.reads_once.ensures c.one_fault.ensures c.text_has_no_fault.ensures
