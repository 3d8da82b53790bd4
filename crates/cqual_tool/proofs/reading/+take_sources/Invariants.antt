use Rattle.std.proofs.Common.{◌-◌, length}
use Rattle.cqual_tool.proofs.reading.+take_sources.Given as goal

abbrev pub decreases-take_sources : goal.decreases-take_sources
decreases-take_sources g l = length l.named.now.sources.now - l.index
