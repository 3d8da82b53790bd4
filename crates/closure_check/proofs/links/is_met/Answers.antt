use Rattle.closure_check.proofs.Asked.{asked_round, round_asked}
use Rattle.closure_check.proofs.links.is_met.Goals as goal

-- an `Enter` is met by A7 just if it goes round by each return of its site
pub returns-in-A7 : goal.returns-in-A7
returns-in-A7 c = (
  λ yes. round_asked c.args.given.now c.args.rule c.args.link c.in-Enter.site c.in-Enter.from c.in-Enter.inner
      c.in-Enter.is c.in-A7.is (c.goes_round.ensures.0 yes),
  λ asked. c.goes_round.ensures.1 (asked_round c.args.given.now c.args.rule c.args.link c.in-Enter.site c.in-Enter.from
      c.in-Enter.inner c.in-Enter.is c.in-A7.is asked),
)
