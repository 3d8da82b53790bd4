use Rattle.std.proofs.Common.{◌-◌, length}
use Rattle.c_lexer.specs.Reading.{Reaches}
use Rattle.c_lexer.proofs.front.read_all.Given as goal

abbrev pub invariant-steps : goal.invariant-steps
invariant-steps l = Reaches l.unit l.wide l.words l.bytes l.front

abbrev pub decreases-steps : goal.decreases-steps
decreases-steps l = length l.bytes - l.front.at
