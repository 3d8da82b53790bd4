use Rattle.std.proofs.Common.{sym, subst}
use Rattle.flow_graph.specs.declared.constraint.Link.{Link}
use Rattle.closure_check.specs.Checking.{Asks}
use Rattle.closure_check.proofs.links.are_met.Goals as goal

-- an `Enter` is met by every rule where its second sets, its pair and its returns are
pub returns-then-calls_on : goal.returns-then-calls_on
returns-then-calls_on c = λ yes rule.
    subst (λ (l : Link). Asks c.args.given.now rule l) (sym c.in-Enter.is)
    (λ call. c.calls_on.ensures.0 c.if-calls_on.true, λ round. c.goes_round.ensures.0 yes)
