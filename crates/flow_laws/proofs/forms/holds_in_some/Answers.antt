use Rattle.flow_laws.proofs.Exact.{holds_in_some}
use Rattle.flow_laws.proofs.forms.holds_in_some.Goals as goal

pub returns : goal.returns
returns c = holds_in_some
