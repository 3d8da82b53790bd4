use Rattle.split_laws.proofs.Carried.{same_paths}
use Rattle.split_laws.proofs.same_paths.Goals as goal

pub returns : goal.returns
returns c = same_paths
