use Rattle.std.proofs.Common.{◌-◌, ◌+◌, ◌<◌, length}
use Rattle.name_state.specs.NameTypes.Known.{AreBare, Grows}
use Rattle.name_state.proofs.name_types.types.find_bare_to.Given as goal

-- the bare types so far are known, the table has grown from the first, and the type asked for is in it
abbrev pub invariant-loop-alloc : goal.invariant-loop-alloc
invariant-loop-alloc l = record {
  known : AreBare l.table l.bare.items;
  grown : Grows l.initial.table l.table;
  there : l.ty < length l.table;
}

abbrev pub decreases-loop-alloc : goal.decreases-loop-alloc
decreases-loop-alloc l = (l.ty + 1) - length l.bare.items
