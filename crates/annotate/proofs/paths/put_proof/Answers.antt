use Rattle.std.proofs.Common.{List, codes, ap}
use Rattle.flow_graph.specs.declared.proof.PathStep.{PathStep}
use Rattle.flow_graph.specs.declared.proof.SubPath.{SubPath}
use Rattle.flow_graph.specs.PathProofs.{steps_of}
use Rattle.annotate.specs.Texts.{line, subs_text, steps_text}
use Rattle.annotate.proofs.Writing.{on_ok, fixed, then_both, same_text}
use Rattle.annotate.proofs.paths.put_proof.Goals as goal

-- the lines of a path proof are those of its sub-paths and of its main path
pub returns : goal.returns
returns c =
    let proof = c.args.proof.now in
    on_ok c.put_steps.result c.put_steps.ensures (λ put.
    then_both (then_both
    (same_text (λ s. subs_text s c.args.graph.now 1 (steps_of proof.subs.items)) c.in_ok-put_subs.ensures
    (λ s shows. ap (λ (subs : List SubPath). subs_text s c.args.graph.now 1 (steps_of subs)) c.deref.ensures.value))
    (fixed c.args.scene.now c.put_subs.new.out.items c.put.new.out.items (line (codes "path")) c.in_ok-put.ensures))
    (same_text (λ s. steps_text s c.args.graph.now proof.main.items) put
    (λ s shows. ap (λ (steps : List PathStep). steps_text s c.args.graph.now steps) c.deref-2.ensures.value)))
