use Rattle.std.proofs.Common.{◌<◌, ℕ}
use Rattle.certificate_laws.specs.declared.rule.CertRule.{CertRule}
use Rattle.closure_check.specs.Checking.{AsksAt}
use Rattle.closure_check.proofs.links.all_met.Given as goal

abbrev pub invariant-loop-n : goal.invariant-loop-n
invariant-loop-n l = (k : ℕ) → k < l.n → (rule : CertRule) → AsksAt l.given rule k
