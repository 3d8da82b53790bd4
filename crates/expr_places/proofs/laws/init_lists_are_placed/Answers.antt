use Rattle.std.proofs.Common.{suc}
use Rattle.c_reading.specs.Knot.{knot}
use Rattle.c_reading.proofs.KnotLaws.{knot_laws}
use Rattle.expr_places.proofs.Inits.{init_list_places}
use Rattle.expr_places.proofs.laws.init_lists_are_placed.Goals as goal

pub returns : goal.returns
returns c n places =
    init_list_places (suc n) (knot n) (knot_laws c.whole_are_mixes.ensures c.mixes_go_on.ensures n) places
