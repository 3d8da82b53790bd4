use Rattle.std.proofs.Common.{◌≡◌}
use Rattle.sig_writer.specs.Marking.{AreUpTo, marked_before}
use Rattle.sig_writer.proofs.marks.indices_of.Given as goal

-- invariant of the loop: the count is that of the marked nodes before n, whose numbers the lists have
abbrev pub invariant-loop-n : goal.invariant-loop-n
invariant-loop-n l = record {
  numbered : l.numbered ≡ marked_before l.marks.items l.n;
  lists : AreUpTo l.nodes l.summaries l.marks.items l.n l.lists.items;
}
