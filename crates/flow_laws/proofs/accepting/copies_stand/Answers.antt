use Rattle.flow_laws.proofs.Accept.{copies_stand}
use Rattle.flow_laws.proofs.accepting.copies_stand.Goals as goal

pub returns : goal.returns
returns c = copies_stand
