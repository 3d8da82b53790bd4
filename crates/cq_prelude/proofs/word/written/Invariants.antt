use Rattle.std.proofs.Common.{length, take}
use Rattle.std.specs.List.{AllZip, slice_split}
use Rattle.cq_prelude.specs.Written.{IsWritten, is_low_line}
use Rattle.cq_prelude.proofs.word.written.Given as goal

abbrev pub invariant-loop-group : goal.invariant-loop-group
invariant-loop-group l = AllZip IsWritten (take (length l.yielded) (slice_split is_low_line l.groups)) l.numbers.items
