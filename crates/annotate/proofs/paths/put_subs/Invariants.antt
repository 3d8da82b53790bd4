use Rattle.std.proofs.Common.{take}
use Rattle.flow_graph.specs.PathProofs.{steps_of}
use Rattle.annotate.specs.Texts.{subs_text}
use Rattle.annotate.specs.Scenes.{Writes}
use Rattle.annotate.proofs.paths.put_subs.Given as goal

abbrev pub invariant-loop-n : goal.invariant-loop-n
invariant-loop-n l = Writes l.scene l.fn.out.items l.out.items (λ s. subs_text s l.graph 1 (steps_of (take l.n l.subs)))
