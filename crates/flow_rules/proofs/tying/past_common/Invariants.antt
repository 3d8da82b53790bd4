use Rattle.std.proofs.Common.{◌≡◌, ◌-◌, length}
use Rattle.qual_types.specs.Rows.{params_from}
use Rattle.flow_rules.specs.Lists.{past}
use Rattle.flow_rules.proofs.tying.past_common.Given as goal

abbrev pub invariant-loop-next : goal.invariant-loop-next
invariant-loop-next l =
    (past (params_from l.vars l.here) (params_from l.vars l.there)
    ≡ past (params_from l.vars l.fn.one) (params_from l.vars l.fn.other))
    × (past (params_from l.vars l.there) (params_from l.vars l.here)
    ≡ past (params_from l.vars l.fn.other) (params_from l.vars l.fn.one))

abbrev pub decreases-loop-next : goal.decreases-loop-next
decreases-loop-next l = length l.vars - l.here
