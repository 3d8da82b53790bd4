use Rattle.std.proofs.Common.{◌≡◌, ◌<◌, ◌^◌, take}
use Rattle.c_lexer.specs.Marks.{decimal}
use Rattle.c_lexer.proofs.marks.number_of.Given as goal

abbrev pub invariant-loop-digit : goal.invariant-loop-digit
invariant-loop-digit l =
    record { small : l.number < 10 ^ l.digit-index; value : l.number ≡ decimal (take l.digit-index l.digits) }
