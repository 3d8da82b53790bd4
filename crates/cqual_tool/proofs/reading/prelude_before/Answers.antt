use Rattle.std.proofs.Common.{[]}
use Rattle.cqual_tool.proofs.reading.prelude_before.Goals as goal

pub returns-clause-units : goal.returns-clause-units
returns-clause-units c = c.in_ok-push_source.ensures [] c.new-units.ensures
