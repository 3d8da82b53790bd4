use Rattle.std.proofs.Common.{◌+◌, refl, sym, take, arith}
use Rattle.annotate.specs.Texts.{steps_text}
use Rattle.annotate.proofs.Writing.{nothing, then_both, same_text}
use Rattle.annotate.proofs.SubsLemmas.{step_more, all_steps}
use Rattle.annotate.proofs.paths.put_steps.Goals as goal

pub loop-step-init : goal.loop-step-init
loop-step-init c =
    nothing c.args.scene.now c.args.out.now.items (λ s. steps_text s c.args.graph.now (take 0 c.args.steps.now))
    (λ s shows. refl)

-- the line of one step more comes behind those of the steps so far
pub loop-step-preserved : goal.loop-step-preserved
loop-step-preserved c =
    same_text (λ s. steps_text s c.args.graph.now (take (c.loop-step.step-index + 1) c.args.steps.now))
    (then_both c.loop-step.invariant c.in_ok-put_step.ensures)
    (λ s shows. sym (step_more s c.args.graph.now c.args.steps.now c.loop-step.step-index c.step-item.result
    (omega arith) c.step-item.is))

-- behind the last step the lines are those of all
pub returns : goal.returns
returns c =
    same_text (λ s. steps_text s c.args.graph.now c.args.steps.now) c.loop-step.invariant
    (λ s shows. all_steps s c.args.graph.now c.args.steps.now c.loop-step.step-index (omega arith))
