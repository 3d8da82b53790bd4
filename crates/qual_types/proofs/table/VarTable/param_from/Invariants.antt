use Rattle.std.proofs.Common.{◌≡◌}
use Rattle.qual_types.specs.Skel.{param_at}
use Rattle.qual_types.specs.Rows.{params_from}
use Rattle.qual_types.proofs.table.VarTable.param_from.Given as goal

abbrev pub invariant-loop-left : goal.invariant-loop-left
invariant-loop-left l = param_at (params_from l.self l.at) l.left ≡ param_at (params_from l.self l.fn.first) l.i

abbrev pub decreases-loop-left : goal.decreases-loop-left
decreases-loop-left l = l.left
