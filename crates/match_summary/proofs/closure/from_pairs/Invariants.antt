use Rattle.std.proofs.Common.{◌≤◌, ◌*◌, ◌-◌, length}
use Rattle.match_summary.specs.Closing.{AreDone, IsKept, Looked}
use Rattle.match_summary.proofs.closure.from_pairs.Given as goal

-- the list is kept, and what follows from each pair before this place is there
abbrev pub invariant-loop-at : goal.invariant-loop-at
invariant-loop-at l = record {
  kept : IsKept l.given l.found;
  within : l.at ≤ length l.found.known;
  done : AreDone l.given.graph.now l.given.lattice l.given.marks.now
      (Looked l.found.known l.given.vars l.at) l.found.known;
}

abbrev pub decreases-loop-at : goal.decreases-loop-at
decreases-loop-at l = length l.given.graph.now.owners * length l.given.graph.now.owners - l.at
