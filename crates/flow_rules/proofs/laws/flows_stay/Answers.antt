use Rattle.flow_rules.proofs.Ends.{flow_stays, equal_stays, smash_stays, unsmash_stays}
use Rattle.flow_rules.proofs.laws.flows_stay.Goals as goal

pub returns : goal.returns
returns c = record { flow = flow_stays; equate = equal_stays; smash = smash_stays; unsmash = unsmash_stays }
