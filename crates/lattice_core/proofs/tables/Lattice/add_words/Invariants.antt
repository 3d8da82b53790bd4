use Rattle.std.proofs.Common.{◌++◌, take}
use Rattle.lattice_core.specs.Names.{entry_words}
use Rattle.qual_base.specs.Words.{MeansTheSame}
use Rattle.lattice_core.proofs.tables.Lattice.add_words.Given as goal

abbrev pub invariant-loop-n : goal.invariant-loop-n
invariant-loop-n l = MeansTheSame l.words (l.initial.words ++ entry_words l.at 0 (take l.n l.entry-items))
