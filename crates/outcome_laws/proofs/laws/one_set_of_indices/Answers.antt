use Rattle.outcome_laws.proofs.Indices.{one_set_of_indices}
use Rattle.outcome_laws.proofs.laws.one_set_of_indices.Goals as goal

pub returns : goal.returns
returns c = one_set_of_indices
