use Rattle.flow_laws.proofs.Exact.{holds_exactly}
use Rattle.flow_laws.proofs.forms.holds_exactly.Goals as goal

pub returns : goal.returns
returns c = holds_exactly
