use Rattle.std.proofs.Common.{◌+◌, ◌-◌, ◌*◌, length}
use Rattle.flow_rules.proofs.tying.+tie.Given as goal

-- parts have higher numbers
abbrev pub decreases-tie_nodes : goal.decreases-tie_nodes
decreases-tie_nodes l = 3 * (length l.vars.now - l.of) + 1

abbrev pub decreases-tie_parts : goal.decreases-tie_parts
decreases-tie_parts l = 3 * (length l.vars.now - l.of)

abbrev pub decreases-tie_params : goal.decreases-tie_params
decreases-tie_params l = 3 * (length l.vars.now - l.from) + 2
