use Rattle.std.proofs.Common.{take}
use Rattle.annotate.specs.Texts.{steps_text}
use Rattle.annotate.specs.Scenes.{Writes}
use Rattle.annotate.proofs.paths.put_steps.Given as goal

abbrev pub invariant-loop-step : goal.invariant-loop-step
invariant-loop-step l =
    Writes l.scene l.fn.out.items l.out.items (λ s. steps_text s l.graph (take l.step-index l.steps))
