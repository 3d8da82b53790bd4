use Rattle.std.proofs.Common.{◌≤◌, ◌+◌, length}
use Rattle.certificate_reader.proofs.HeldLemmas.{StandsAt}
use Rattle.certificate_reader.proofs.reader.read_lines.Given as goal

-- the reader holds what the lines so far say, and the number of lines is no more than that of bytes
abbrev pub invariant-lines : goal.invariant-lines
invariant-lines l = record {
  stands : StandsAt l.scene.graph.now l.scene.alls.now l.bytes l.reader l.number l.rest;
  few : l.number + length l.rest ≤ length l.bytes + 1;
}

abbrev pub decreases-lines : goal.decreases-lines
decreases-lines l = length l.rest
