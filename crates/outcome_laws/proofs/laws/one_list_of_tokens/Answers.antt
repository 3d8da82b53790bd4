use Rattle.outcome_laws.proofs.Tokens.{one_list_of_tokens}
use Rattle.outcome_laws.proofs.laws.one_list_of_tokens.Goals as goal

pub returns : goal.returns
returns c = one_list_of_tokens
