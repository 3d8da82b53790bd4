-- The ops of nodes.
use Rattle.tape_ops.specs.declared.op.Op.{Op}
use Rattle.c_tape.specs.declared.list.Node.{Node}

-- the op of a node
abbrev pub op_of : Node → Op
op_of n = n.op
