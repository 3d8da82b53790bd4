use Rattle.std.proofs.Common.{◌≡◌, ◌+◌, ℕ, Some, length, slice_get}
use Rattle.sig_writer.specs.declared.says.Elements.{Elements}
use Rattle.sig_writer.specs.Saying.{AreFoundAt}
use Rattle.sig_writer.proofs.says.push_all.Given as goal

-- invariant of the loop: there is one entry of elements for each node so far, and it is what is found there
abbrev pub invariant-loop-n : goal.invariant-loop-n
invariant-loop-n l = record {
  count : l.fn.nodes.from + length l.elements.items ≡ l.n;
  are : (k : ℕ) (it : Elements) → slice_get l.elements.items k ≡ Some it → AreFoundAt l.known (l.fn.nodes.from + k) it;
}
