use Rattle.depth_laws.proofs.Only.{only_the_height}
use Rattle.depth_laws.proofs.laws.only_the_height.Goals as goal

-- a refusal for the height is allowed: a tree begins with the tokens up to it, and fifty at least stand before
pub returns : goal.returns
returns c =
    only_the_height c.unit_is_well_formed.ensures c.well_formed_is_read.ensures c.whole_are_mixes.ensures
    c.mixes_go_on.ensures c.place_is_first.ensures c.units_begin_as_trees.ensures c.too_deep_is_late.ensures
    c.with_more_room_it_passes.ensures c.any_unit_is_well_formed.ensures
