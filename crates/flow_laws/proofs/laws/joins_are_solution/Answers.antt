use Rattle.flow_laws.proofs.Leads.{joins_are_solution}
use Rattle.flow_laws.proofs.laws.joins_are_solution.Goals as goal

pub returns : goal.returns
returns c = joins_are_solution
