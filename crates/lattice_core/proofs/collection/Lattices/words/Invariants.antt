use Rattle.std.proofs.Common.{take}
use Rattle.lattice_core.specs.Names.{words_of}
use Rattle.qual_base.specs.Words.{MeansTheSame}
use Rattle.lattice_core.proofs.collection.Lattices.words.Given as goal

abbrev pub invariant-loop-at : goal.invariant-loop-at
invariant-loop-at l = MeansTheSame l.words (words_of (take l.at l.lattice-items))
