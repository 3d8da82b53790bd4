use Rattle.std.proofs.Common.{◌≡◌, ◌++◌}
use Rattle.c_tree.specs.Unit.{items_of}
use Rattle.c_tape.specs.Tape.{tape_of}
use Rattle.c_tape.proofs.unit.tape.Given as goal

abbrev pub invariant-loop : goal.invariant-loop
invariant-loop l = l.out ++ l.todo ≡ tape_of (items_of l.unit)
