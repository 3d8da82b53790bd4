use Rattle.flow_laws.proofs.Testing.{reached_is_tested}
use Rattle.flow_laws.proofs.paths.reached_is_tested.Goals as goal

pub returns : goal.returns
returns c = reached_is_tested
