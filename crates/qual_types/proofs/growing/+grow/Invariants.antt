use Rattle.std.proofs.Common.{◌+◌, ◌*◌}
use Rattle.type_table.specs.Types.{size, sizes}
use Rattle.type_table.specs.Rows.{type_of, types_of, types_at}
use Rattle.qual_types.proofs.growing.+grow.Given as goal

abbrev pub decreases-grow : goal.decreases-grow
decreases-grow l = 2 * size (type_of l.types.now l.ty)

abbrev pub decreases-grow_params : goal.decreases-grow_params
decreases-grow_params l = 2 * sizes (types_at (types_of l.types.now) l.params.now) + 1
