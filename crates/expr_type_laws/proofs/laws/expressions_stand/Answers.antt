use Rattle.expr_type_laws.proofs.Standing as standing
use Rattle.expr_type_laws.proofs.laws.expressions_stand.Goals as goal

pub returns : goal.returns
returns c = standing.expressions_stand c.shapes_are_left.ensures
