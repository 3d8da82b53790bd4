use Rattle.std.proofs.Common.{arith, ap, ◌∙◌, sym, ◌++◌, ℕ, List}
use Rattle.qual_base.proofs.Lists.{take_whole}
use Rattle.sig_writer.specs.Nodes.{all_nodes_in, nodes_in}
use Rattle.sig_writer.proofs.Taken.{flat_more}
use Rattle.sig_writer.proofs.nodes.signature_vars.Goals as goal

-- the nodes of one function more come behind those of the functions so far
pub loop-at-preserved : goal.loop-at-preserved
loop-at-preserved c =
    let it = c.args.skeletons.now in
    let at = c.at-item.result in
    c.in_ok-push_nodes_at.ensures
    ∙ ap (λ (vars : List ℕ). vars ++ nodes_in it at) c.loop-at.invariant
    ∙ sym (flat_more (nodes_in it) c.args.functions.now c.loop-at.at-index at c.at-item.is (omega arith))

pub returns : goal.returns
returns c =
    c.loop-at.invariant
    ∙ ap (all_nodes_in c.args.skeletons.now) (take_whole c.args.functions.now c.loop-at.at-index (omega arith))
