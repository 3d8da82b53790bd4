use Rattle.flow_laws.proofs.Force.{more_is_harder}
use Rattle.flow_laws.proofs.laws.more_is_harder.Goals as goal

pub returns : goal.returns
returns c = more_is_harder
