use Rattle.flow_laws.proofs.Testing.{matches_join}
use Rattle.flow_laws.proofs.paths.matches_join.Goals as goal

pub returns : goal.returns
returns c = matches_join
