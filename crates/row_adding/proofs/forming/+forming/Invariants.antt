use Rattle.std.proofs.Common.{◌+◌, ◌-◌, ◌*◌, length}
use Rattle.row_adding.proofs.forming.+forming.Given as goal

-- parts have higher numbers
abbrev pub decreases-form_in : goal.decreases-form_in
decreases-form_in l = 3 * (length l.known.now.vars.now - l.at) + 2

abbrev pub decreases-form_pointer : goal.decreases-form_pointer
decreases-form_pointer l = 3 * (length l.known.now.vars.now - l.inside) + 3

abbrev pub decreases-form_function : goal.decreases-form_function
decreases-form_function l = 3 * (length l.known.now.vars.now - l.of) + 1

abbrev pub decreases-form_params : goal.decreases-form_params
decreases-form_params l = 3 * (length l.known.now.vars.now - l.from) + 3
