use Rattle.token_places.proofs.Rows.{attrs_before_semicolon}
use Rattle.token_places.proofs.laws.attrs_are_placed.Goals as goal

pub returns : goal.returns
returns c = attrs_before_semicolon
