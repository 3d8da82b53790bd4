use Rattle.std.proofs.Common.{◌≡◌, ◌++◌, drop}
use Rattle.certificate_text.specs.Text.{pairs_text}
use Rattle.certificate_text.proofs.putting.put_pairs.Given as goal

abbrev pub invariant-loop-pair : goal.invariant-loop-pair
invariant-loop-pair l = l.out.items ++ pairs_text (drop l.pair-index l.pairs) ≡ l.fn.out.items ++ pairs_text l.pairs
