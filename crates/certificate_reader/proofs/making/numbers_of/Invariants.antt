use Rattle.std.proofs.Common.{◌≡◌, ◌++◌, drop, map}
use Rattle.certificate_reader.specs.Making.{vars_at}
use Rattle.certificate_reader.proofs.making.numbers_of.Given as goal

abbrev pub invariant-loop-pair : goal.invariant-loop-pair
invariant-loop-pair l =
    l.numbers.items
    ++ map (λ pair. vars_at l.graph pair) (drop l.pair-index l.pairs) ≡ map (λ pair. vars_at l.graph pair) l.pairs
