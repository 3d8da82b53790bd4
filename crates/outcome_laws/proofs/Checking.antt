-- A report comes to one thing: a line that does not fit, one that names no constraint, and a step that fails a rule
-- exclude each other.
use Rattle.path_checker.proofs.ReportChecks.Unique.{comes_to_one}
use Rattle.outcome_laws.specs.Judgements.{OneCheck}

-- two answers to which one report comes are equal
pub one_check : OneCheck
one_check sys orders text one other h k = comes_to_one sys orders text one other h k
