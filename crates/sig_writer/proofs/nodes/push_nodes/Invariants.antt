use Rattle.std.proofs.Common.{◌≡◌, ◌-◌, ◌++◌}
use Rattle.sig_writer.specs.Nodes.{numbers}
use Rattle.sig_writer.proofs.nodes.push_nodes.Given as goal

abbrev pub invariant-loop-n : goal.invariant-loop-n
invariant-loop-n l = l.vars.items ≡ l.fn.vars.items ++ numbers (l.n - l.fn.nodes.from) l.fn.nodes.from
