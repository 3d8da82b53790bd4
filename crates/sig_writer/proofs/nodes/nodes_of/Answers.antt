use Rattle.std.proofs.Common.{◌∙◌}
use Rattle.qual_types.specs.Rows.{skel_of}
use Rattle.sig_writer.proofs.Numbers.{nodes_are}
use Rattle.sig_writer.proofs.nodes.nodes_of.Goals as goal

-- the variables from the root to the last one of a skeleton in pre-order are its nodes
pub returns : goal.returns
returns c =
    nodes_are (skel_of c.args.vars.now c.args.at) c.number.result c.number-2.result
    (c.number.ensures ∙ c.var.ensures.root) (c.number-2.ensures ∙ c.last_of.ensures.last)
