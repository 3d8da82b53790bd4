use Rattle.flow_laws.proofs.Testing.{returning_goes_on}
use Rattle.flow_laws.proofs.paths.returning_goes_on.Goals as goal

pub returns : goal.returns
returns c = returning_goes_on
