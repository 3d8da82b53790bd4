use Rattle.std.proofs.Common.{◌≤◌, ◌+◌, length}
use Rattle.path_checker.specs.Lines.{lines_of}
use Rattle.path_checker.proofs.Reading.{Stands}
use Rattle.path_checker.proofs.report.read_lines.Given as goal

-- the reader stands before the lines that are left, and their number is no more than that of bytes
abbrev pub invariant-lines : goal.invariant-lines
invariant-lines l = record {
  stands : Stands l.edges (lines_of l.bytes) l.reader l.number (lines_of l.rest);
  few : l.number + length l.rest ≤ length l.bytes + 1;
}

abbrev pub decreases-lines : goal.decreases-lines
decreases-lines l = length l.rest
