use Rattle.std.proofs.Common.{◌+◌, ◌*◌, ◌^◌, length}
use Rattle.row_adding.proofs.annotating.+annotating.Given as goal

-- parts of a type have lower numbers
abbrev pub decreases-annotate : goal.decreases-annotate
decreases-annotate l = 2 ^ 67 * l.ty + 2 ^ 66 + 3

abbrev pub decreases-annotate_inside : goal.decreases-annotate_inside
decreases-annotate_inside l = 2 ^ 67 * l.ty + 2 ^ 66 + 2

abbrev pub decreases-annotate_function : goal.decreases-annotate_function
decreases-annotate_function l = 2 ^ 67 * l.ty + 2 ^ 66 + 1

abbrev pub decreases-annotate_all : goal.decreases-annotate_all
decreases-annotate_all l = 2 ^ 67 * l.below + 2 ^ 66

abbrev pub decreases-annotate_params : goal.decreases-annotate_params
decreases-annotate_params l = 2 ^ 67 * l.below + 2 * length l.params.now + 1

abbrev pub decreases-annotate_both : goal.decreases-annotate_both
decreases-annotate_both l = 2 ^ 67 * l.below + 2 * length l.rest.now + 2
