use Rattle.std.proofs.Common.{◌++◌}
use Rattle.lattice_core.specs.Names.{entry_words}
use Rattle.qual_base.specs.Words.{MeansTheSame}
use Rattle.lattice_core.proofs.NameLemmas.{lattice_on}
use Rattle.lattice_core.proofs.collection.Lattices.words.Goals as goal

-- the names of one more lattice join those of the lattices before it
pub loop-at-preserved : goal.loop-at-preserved
loop-at-preserved c =
    let added : MeansTheSame c.add_words.new.words (c.loop-at.words
    ++ entry_words c.loop-at.at 0 c.lattice-item.result.entries) = rw c.new.ensures at c.in_ok-add_words.ensures in
    lattice_on c.deref-lattice-items.result.now c.loop-at.at c.lattice-item.result c.loop-at.words c.add_words.new.words
    c.loop-at-test.true c.lattice-item.is c.loop-at.invariant added
