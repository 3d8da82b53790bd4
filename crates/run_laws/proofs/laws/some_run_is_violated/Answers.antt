use Rattle.run_laws.proofs.Seen.{some_run_is_violated}
use Rattle.run_laws.proofs.laws.some_run_is_violated.Goals as goal

pub returns : goal.returns
returns c = some_run_is_violated
