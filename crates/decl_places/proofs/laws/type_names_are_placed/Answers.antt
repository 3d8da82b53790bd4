use Rattle.std.proofs.Common.{suc}
use Rattle.c_reading.specs.Knot.{knot}
use Rattle.c_reading.proofs.KnotLaws.{knot_laws}
use Rattle.decl_places.proofs.Shown.{type_name_places}
use Rattle.decl_places.proofs.laws.type_names_are_placed.Goals as goal

pub returns : goal.returns
returns c =
    λ n places. type_name_places (suc n) (knot n) places (knot_laws c.whole_are_mixes.ensures c.mixes_go_on.ensures n)
