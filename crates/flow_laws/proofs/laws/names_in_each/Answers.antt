use Rattle.flow_laws.proofs.Leads.{names_in_each}
use Rattle.flow_laws.proofs.laws.names_in_each.Goals as goal

pub returns : goal.returns
returns c = names_in_each
