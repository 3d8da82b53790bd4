use Rattle.std.proofs.Common.{◌+◌, ◌-◌, ◌*◌, length}
use Rattle.flow_rules.proofs.equating.+equal.Given as goal

-- parts have higher numbers
abbrev pub decreases-make_equal : goal.decreases-make_equal
decreases-make_equal l = 3 * (length l.vars.now - l.one) + 1

abbrev pub decreases-equal_rest : goal.decreases-equal_rest
decreases-equal_rest l = 3 * (length l.vars.now - l.one)

abbrev pub decreases-equal_params : goal.decreases-equal_params
decreases-equal_params l = 3 * (length l.vars.now - l.one) + 2
