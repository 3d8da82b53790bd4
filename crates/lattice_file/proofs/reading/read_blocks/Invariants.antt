use Rattle.std.proofs.Common.{◌-◌, length}
use Rattle.lattice_file.specs.Reading.{standing_of}
use Rattle.lattice_file.proofs.FirstBad.{Stands}
use Rattle.lattice_file.proofs.reading.read_blocks.Given as goal

abbrev pub invariant-loop-start : goal.invariant-loop-start
invariant-loop-start l = Stands l.wide l.bytes l.at (standing_of l.reader)

abbrev pub decreases-loop-start : goal.decreases-loop-start
decreases-loop-start l = length l.bytes - l.at
