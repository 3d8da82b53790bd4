use Rattle.std.proofs.Common.{◌≡◌, drop}
use Rattle.c_tree.specs.Lists.{init_declrs_from}
use Rattle.cq_prelude.specs.Placing.{declare_functions}
use Rattle.cq_prelude.proofs.declaring.are_functions.Given as goal

abbrev pub invariant-loop-declr : goal.invariant-loop-declr
invariant-loop-declr l =
    declare_functions (init_declrs_from (drop l.declr-index l.declrs)) ≡ declare_functions (init_declrs_from l.declrs)
