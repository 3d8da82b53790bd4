use Rattle.expr_type_laws.proofs.Finding as finding
use Rattle.expr_type_laws.proofs.laws.shapes_are_found.Goals as goal

pub returns : goal.returns
returns c = finding.shapes_are_found c.expressions_stand.ensures c.tokens_are_once.ensures
