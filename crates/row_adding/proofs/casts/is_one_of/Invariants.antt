use Rattle.std.proofs.Common.{◌≡◌, drop}
use Rattle.row_rules.specs.Worlds.{World}
use Rattle.row_rules.specs.Annotations.{names_lattice}
use Rattle.row_world.specs.Shown.{Shows}
use Rattle.row_adding.proofs.casts.is_one_of.Given as goal

abbrev pub invariant-loop-word : goal.invariant-loop-word
invariant-loop-word l = (w : World) → Shows l.known w →
    names_lattice w l.lattice (drop l.word-index l.words) ≡ names_lattice w l.lattice l.words
