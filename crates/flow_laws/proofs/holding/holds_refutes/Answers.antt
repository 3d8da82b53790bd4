use Rattle.flow_laws.proofs.MainPath.{holds_refutes}
use Rattle.flow_laws.proofs.holding.holds_refutes.Goals as goal

pub returns : goal.returns
returns c = holds_refutes
