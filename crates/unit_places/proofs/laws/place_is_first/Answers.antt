use Rattle.unit_places.proofs.Heights.{place_is_first}
use Rattle.unit_places.proofs.laws.place_is_first.Goals as goal

pub returns : goal.returns
returns c =
    place_is_first c.unit_is_well_formed.ensures c.well_formed_is_read.ensures c.whole_are_mixes.ensures
    c.mixes_go_on.ensures
