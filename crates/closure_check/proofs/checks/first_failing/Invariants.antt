use Rattle.std.proofs.Common.{◌-◌}
use Rattle.certificate_laws.specs.Certificates.{number_of}
use Rattle.closure_check.specs.Checking.{AreObeyedBefore}
use Rattle.closure_check.proofs.checks.first_failing.Given as goal

abbrev pub invariant-loop-rule : goal.invariant-loop-rule
invariant-loop-rule l = AreObeyedBefore l.given l.rule

abbrev pub decreases-loop-rule : goal.decreases-loop-rule
decreases-loop-rule l = 9 - number_of l.rule
