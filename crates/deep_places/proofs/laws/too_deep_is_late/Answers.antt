use Rattle.deep_places.proofs.Knots.{few}
use Rattle.deep_places.proofs.laws.too_deep_is_late.Goals as goal

pub returns : goal.returns
returns c = few c.whole_are_mixes.ensures c.mixes_go_on.ensures
