use Rattle.std.proofs.Common.{◌≡◌, ◌++◌, drop}
use Rattle.lattice_core.specs.View.{orders_of}
use Rattle.certificate_reader.specs.Grammar.{alls_of}
use Rattle.certificate_reader.specs.Reader.{AreSmall}
use Rattle.certificate_reader.proofs.reader.all_sets.Given as goal

-- the sets so far and those of the lattices from here on are all of them, and those before are small
abbrev pub invariant-loop-at : goal.invariant-loop-at
invariant-loop-at l = record {
  sets : l.alls.items ++ alls_of (orders_of (drop l.at l.lattices)) ≡ alls_of (orders_of l.lattices);
  small : AreSmall l.at (orders_of l.lattices);
}
