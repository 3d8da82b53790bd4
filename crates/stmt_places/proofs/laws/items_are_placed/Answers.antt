use Rattle.std.proofs.Common.{suc}
use Rattle.c_reading.specs.Knot.{knot}
use Rattle.c_reading.proofs.KnotLaws.{knot_laws}
use Rattle.stmt_places.proofs.Items.{items_law}
use Rattle.stmt_places.proofs.laws.items_are_placed.Goals as goal

pub returns : goal.returns
returns c n room places less high =
    items_law (suc n) (knot n) (knot_laws c.whole_are_mixes.ensures c.mixes_go_on.ensures n) places room less high
