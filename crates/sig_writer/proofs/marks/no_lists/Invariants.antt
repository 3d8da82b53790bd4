use Rattle.std.proofs.Common.{◌≡◌, [], ℕ, length}
use Rattle.sig_writer.specs.Marking.{items_at}
use Rattle.sig_writer.proofs.marks.no_lists.Given as goal

-- invariant of the loop: there are as many lists as counted, all empty
abbrev pub invariant-loop : goal.invariant-loop
invariant-loop l = record {
  size : length l.lists.items ≡ l.counter;
  empty : (j : ℕ) → items_at l.lists.items j ≡ [];
}
