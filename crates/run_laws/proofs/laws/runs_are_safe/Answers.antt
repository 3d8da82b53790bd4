use Rattle.run_laws.proofs.Safe.{runs_are_safe}
use Rattle.run_laws.proofs.laws.runs_are_safe.Goals as goal

pub returns : goal.returns
returns c = runs_are_safe
