use Rattle.std.proofs.Common.{◌≡◌, take}
use Rattle.sig_writer.specs.Nodes.{all_nodes_in}
use Rattle.sig_writer.proofs.nodes.signature_vars.Given as goal

abbrev pub invariant-loop-at : goal.invariant-loop-at
invariant-loop-at l = l.vars.items ≡ all_nodes_in l.skeletons (take l.at-index l.functions)
