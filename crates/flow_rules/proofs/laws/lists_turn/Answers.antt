use Rattle.std.proofs.Common.{false}
use Rattle.flow_rules.proofs.Turning.{flow_turns, equal_turns}
use Rattle.flow_rules.proofs.laws.lists_turn.Goals as goal

pub returns : goal.returns
returns c = record { flow = flow_turns false; equate = equal_turns false }
