use Rattle.std.proofs.Common.{◌≡◌, drop}
use Rattle.c_tree.specs.Lists.{init_declrs_from}
use Rattle.c_tape.specs.Tests.{have_values}
use Rattle.c_tape.proofs.testing.have_values.Given as goal

abbrev pub invariant-loop-it : goal.invariant-loop-it
invariant-loop-it l =
    have_values (init_declrs_from (drop l.it-index l.declrs)) ≡ have_values (init_declrs_from l.declrs)
