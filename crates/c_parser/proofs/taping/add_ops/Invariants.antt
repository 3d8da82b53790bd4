use Rattle.std.proofs.Common.{◌≡◌, ◌++◌, map, drop}
use Rattle.c_tape.specs.Nodes.{op_of}
use Rattle.c_parser.proofs.taping.add_ops.Given as goal

abbrev pub invariant-loop-node : goal.invariant-loop-node
invariant-loop-node l = l.ops.items ++ map op_of (drop l.node-index l.nodes) ≡ l.fn.ops.items ++ map op_of l.nodes
