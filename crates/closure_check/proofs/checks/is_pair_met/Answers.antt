use Rattle.closure_check.proofs.checks.is_pair_met.Goals as goal

pub returns-in_default : goal.returns-in_default
returns-in_default c = (
  λ met. (λ eight. absurd (c.in_default.not-A8 eight), λ other. c.all_edges.ensures.0 met),
  λ asked. c.all_edges.ensures.1 (asked.1 c.in_default.not-A8),
)
