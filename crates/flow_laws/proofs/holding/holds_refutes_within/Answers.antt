use Rattle.flow_laws.proofs.MainPath.{holds_refutes_within}
use Rattle.flow_laws.proofs.holding.holds_refutes_within.Goals as goal

pub returns : goal.returns
returns c = holds_refutes_within
