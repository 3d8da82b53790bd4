use Rattle.std.proofs.Common.{◌≡◌, ◌++◌, drop}
use Rattle.certificate_text.specs.Naming.{pair_names}
use Rattle.certificate_text.proofs.text.named_pairs.Given as goal

abbrev pub invariant-loop-pair : goal.invariant-loop-pair
invariant-loop-pair l = l.named.items ++ pair_names l.names (drop l.pair-index l.pairs) ≡ pair_names l.names l.pairs
