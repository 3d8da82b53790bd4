use Rattle.unit_places.proofs.Heights.{height_alone}
use Rattle.unit_places.proofs.laws.height_alone.Goals as goal

-- a refusal that is not for the height tells that no unit of any height begins with the tokens up to it
pub returns : goal.returns
returns c =
    height_alone c.unit_is_well_formed.ensures c.well_formed_is_read.ensures c.whole_are_mixes.ensures
    c.mixes_go_on.ensures c.any_height_is_read.ensures c.more_room_is_more.ensures
