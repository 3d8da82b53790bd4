use Rattle.std.proofs.Common.{◌+◌, ◌-◌, ◌*◌, length}
use Rattle.flow_rules.proofs.flowing.+flow.Given as goal

-- parts have higher numbers
abbrev pub decreases-flow_into : goal.decreases-flow_into
decreases-flow_into l = 3 * (length l.vars.now - l.one) + 1

abbrev pub decreases-flow_rest : goal.decreases-flow_rest
decreases-flow_rest l = 3 * (length l.vars.now - l.one)

abbrev pub decreases-flow_params : goal.decreases-flow_params
decreases-flow_params l = 3 * (length l.vars.now - l.one) + 2
