use Rattle.std.proofs.Common.{List, ◌++◌, codes, ap}
use Rattle.flow_graph.specs.declared.proof.PathStep.{PathStep}
use Rattle.flow_graph.specs.declared.proof.SubPath.{SubPath}
use Rattle.flow_graph.specs.PathProofs.{steps_of}
use Rattle.annotate.specs.Texts.{line, subs_text, steps_text, taken, walk_text}
use Rattle.annotate.proofs.Writing.{on_ok, fixed, then_both, same_text}
use Rattle.annotate.proofs.SubsLemmas.{walk_lines}
use Rattle.annotate.proofs.paths.put_walk.Goals as goal

-- the lines of a walk are those of its sub-paths, of what it goes on from, of its steps and of what it leads to
pub returns : goal.returns
returns c =
    let walk = c.args.walk.now in
    let graph = c.args.graph.now in
    on_ok c.put_beside-2.result c.put_beside-2.ensures
    (λ put. same_text (λ s. walk_text s graph c.args.begin c.args.bound walk) (then_both (then_both
    (then_both (then_both (same_text (λ s. subs_text s graph 1 (steps_of walk.subs.items)) c.in_ok-put_subs.ensures
    (λ s shows. ap (λ (subs : List SubPath). subs_text s graph 1 (steps_of subs)) c.deref.ensures.value))
    (fixed c.args.scene.now c.put_subs.new.out.items c.put.new.out.items (line (codes "path")) c.in_ok-put.ensures))
    c.in_ok-put_beside.ensures) (same_text (λ s. steps_text s graph walk.steps.items) c.in_ok-put_steps.ensures
    (λ s shows. ap (λ (steps : List PathStep). steps_text s graph steps) c.deref-2.ensures.value))) put) (λ s shows.
    walk_lines s graph (subs_text s graph 1 (steps_of walk.subs.items) ++ line (codes "path"))
    (taken c.args.begin) walk.steps.items (taken c.args.bound)))
