use Rattle.std.proofs.Common.{◌+◌, ◌*◌, ◌^◌, length}
use Rattle.row_adding.proofs.casts.+cutting.Given as goal

-- parts of a type have lower numbers
abbrev pub decreases-is_named : goal.decreases-is_named
decreases-is_named l = 2 ^ 66 * l.ty + 2 ^ 65

abbrev pub decreases-is_named_in : goal.decreases-is_named_in
decreases-is_named_in l = 2 ^ 66 * l.below + length l.types.now
