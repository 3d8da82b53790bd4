use Rattle.flow_laws.proofs.Testing.{calling_goes_on}
use Rattle.flow_laws.proofs.paths.calling_goes_on.Goals as goal

pub returns : goal.returns
returns c = calling_goes_on
