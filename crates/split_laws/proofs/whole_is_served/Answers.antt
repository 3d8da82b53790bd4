use Rattle.split_laws.proofs.Wholes.{whole_is_served}
use Rattle.split_laws.proofs.whole_is_served.Goals as goal

pub returns : goal.returns
returns c = whole_is_served
