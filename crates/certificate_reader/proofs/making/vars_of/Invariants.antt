use Rattle.std.proofs.Common.{◌≡◌, ◌++◌, drop}
use Rattle.certificate_reader.proofs.making.vars_of.Given as goal

abbrev pub invariant-loop-pair : goal.invariant-loop-pair
invariant-loop-pair l = l.found.items ++ drop l.pair-index l.numbers ≡ l.numbers
