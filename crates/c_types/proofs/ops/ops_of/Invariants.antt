use Rattle.std.proofs.Common.{◌≡◌, ◌++◌, map, drop}
use Rattle.c_tape.specs.Nodes.{op_of}
use Rattle.c_types.proofs.ops.ops_of.Given as goal

abbrev pub invariant-loop-node : goal.invariant-loop-node
invariant-loop-node l = l.ops.items ++ map op_of (drop l.node-index l.nodes) ≡ map op_of l.nodes
