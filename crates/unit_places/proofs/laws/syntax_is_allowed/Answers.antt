use Rattle.unit_places.proofs.Heights.{syntax_is_allowed}
use Rattle.unit_places.proofs.laws.syntax_is_allowed.Goals as goal

pub returns : goal.returns
returns c = syntax_is_allowed c.place_is_first.ensures c.height_alone.ensures c.first_bad_is_allowed.ensures
