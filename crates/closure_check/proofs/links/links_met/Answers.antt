use Rattle.std.proofs.Common.{refl}
use Rattle.closure_check.proofs.links.links_met.Goals as goal

pub returns-then-known : goal.returns-then-known
returns-then-known c = (λ yes. c.requires.known c.if-known.true c.args.rule, λ all. refl)
