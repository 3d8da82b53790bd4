use Rattle.match_summary.specs.Closing.{AreDone, IsKept, Looked}
use Rattle.match_summary.proofs.closure.from_ends.Given as goal

-- the list is kept, and what follows from nothing at each variable before this one is there
abbrev pub invariant-loop-n : goal.invariant-loop-n
invariant-loop-n l = record {
  kept : IsKept l.given l.found;
  done : AreDone l.given.graph.now l.given.lattice l.given.marks.now (Looked l.found.known l.n 0) l.found.known;
}
