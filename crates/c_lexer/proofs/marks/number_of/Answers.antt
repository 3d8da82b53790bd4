use Rattle.std.proofs.Common.{◌≤◌, ◌-◌, get_or, arith}
use Rattle.c_lexer.proofs.MarkLemmas.{room, digit_value}
use Rattle.c_lexer.proofs.marks.number_of.Goals as goal

-- ten times a number of fewer than nine digits fits into 32 bits
pub overflow_mul-number : goal.overflow_mul-number
overflow_mul-number c =
    let few = c.requires.few in
    omega (
      arith,
      room c.loop-digit.number c.loop-digit.digit-index 0 c.loop-digit.invariant.small (omega arith) (omega arith),
    )

-- a number of at most nine digits fits into 32 bits
pub overflow_add-number : goal.overflow_add-number
overflow_add-number c =
    let few = c.requires.few in
    let digit : get_or c.args.digits.now c.loop-digit.digit-index 0 - 48 ≤ 9 =
    digit_value c.args.digits.now c.loop-digit.digit-index c.requires.digits c.loop-digit-test.true in
    let value = c.from.ensures in
    omega (
      arith,
      room c.loop-digit.number c.loop-digit.digit-index
          (get_or c.args.digits.now c.loop-digit.digit-index 0 - 48) c.loop-digit.invariant.small (omega arith) digit,
    )
