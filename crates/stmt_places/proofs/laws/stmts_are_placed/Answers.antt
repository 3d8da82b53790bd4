use Rattle.std.proofs.Common.{suc}
use Rattle.c_reading.specs.Knot.{knot}
use Rattle.c_reading.proofs.KnotLaws.{knot_laws}
use Rattle.stmt_places.proofs.Stmts.{stmt_places}
use Rattle.stmt_places.proofs.laws.stmts_are_placed.Goals as goal

pub returns : goal.returns
returns c n places = stmt_places (suc n) (knot n) (knot_laws c.whole_are_mixes.ensures c.mixes_go_on.ensures n) places
