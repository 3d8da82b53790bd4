use Rattle.std.proofs.Common.{◌≡◌, ◌++◌}
use Rattle.std.specs.Vec.Iter.{into_iter_items}
use Rattle.lattice_file.specs.Blocks.{AreAllBuilt}
use Rattle.lattice_file.proofs.reading.build_all.Given as goal

-- the blocks that were taken have their lattices, and with those that are left they are all
abbrev pub invariant-loop-block : goal.invariant-loop-block
invariant-loop-block l = record {
  can : (goal.iterator-loop-block).can_next l.block-iterator;
  finite : (goal.iterator-loop-block).is_finite l.block-iterator;
  items : l.yielded ++ into_iter_items l.block-iterator ≡ l.fn.blocks.items;
  built : AreAllBuilt l.yielded l.all;
}
