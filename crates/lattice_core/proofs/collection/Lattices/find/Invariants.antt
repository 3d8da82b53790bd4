use Rattle.std.proofs.Common.{◌≡◌, drop}
use Rattle.lattice_core.specs.Names.{words_of, words_from}
use Rattle.qual_base.specs.Words.{meaning_of}
use Rattle.lattice_core.proofs.collection.Lattices.find.Given as goal

abbrev pub invariant-loop-at : goal.invariant-loop-at
invariant-loop-at l =
    meaning_of (words_of l.lattice-items) l.word ≡ meaning_of (words_from l.at (drop l.at l.lattice-items)) l.word
