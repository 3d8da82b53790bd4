use Rattle.closure_check.proofs.Asked.{asked_call, call_asked}
use Rattle.closure_check.proofs.checks.is_edge_met.Goals as goal

-- a pair behind which an `Enter` goes round is met by that `Enter` under A7
pub returns-in-A7 : goal.returns-in-A7
returns-in-A7 c = (
  λ yes.
      call_asked c.args.given.now c.args.rule c.args.from c.args.to c.args.edge c.constraint-constraint.result
      c.in-Enter.site c.in-Enter.field-1 c.in-Enter.inner c.constraint-constraint.ensures.there c.in-Enter.is c.in-A7.is
      (c.goes_round.ensures.0 yes),
  λ asked. c.goes_round.ensures.1
      (asked_call c.args.given.now c.args.rule c.args.from c.args.to c.args.edge c.constraint-constraint.result
      c.in-Enter.site c.in-Enter.field-1 c.in-Enter.inner c.constraint-constraint.ensures.there c.in-Enter.is c.in-A7.is
      c.requires.edge (c.is_in.ensures.0 c.if-not-is_in.false) asked),
)
