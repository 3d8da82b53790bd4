use Rattle.flow_laws.proofs.Leads.{solution_stands}
use Rattle.flow_laws.proofs.laws.solution_stands.Goals as goal

pub returns : goal.returns
returns c = solution_stands
