use Rattle.std.proofs.Common.{rules}
use Rattle.cq_prelude.proofs.Digits.{goes_on, stops, ends}
use Rattle.cq_prelude.proofs.word.number.Goals as goal

pub returns-in_err-number-clause-none : goal.returns-in_err-number-clause-none
returns-in_err-number-clause-none c _ n =
    stops c.args.digits.now _ _ n c.loop-byte.invariant c.loop-byte-test.true (c.with_digit.ensures.none (search rules))

pub loop-byte-preserved : goal.loop-byte-preserved
loop-byte-preserved c =
    goes_on c.args.digits.now _ _ _ c.loop-byte.invariant c.loop-byte-test.true c.in_ok-number.ensures.digit

pub returns-clause-some : goal.returns-clause-some
returns-clause-some c = ends c.args.digits.now _ _ c.loop-byte.invariant c.loop-byte-test.false c.if-is_empty.ensures
