use Rattle.annotate.specs.Texts.{steps_text, taken}
use Rattle.annotate.proofs.Writing.{on_ok, nothing, same_text}
use Rattle.annotate.proofs.SubsLemmas.{beside_is, none_beside}
use Rattle.annotate.proofs.paths.put_beside.Goals as goal

-- a constraint beside a walk gives its line
pub returns-in-Some : goal.returns-in-Some
returns-in-Some c =
    on_ok c.put_take.result c.put_take.ensures (λ put.
    same_text (λ s. steps_text s c.args.graph.now (taken c.args.beside)) put
    (λ s shows. beside_is s c.args.graph.now c.args.beside c.in-Some.at c.in-Some.is))

-- without a constraint beside it a walk has no line more
pub returns-in-None : goal.returns-in-None
returns-in-None c =
    nothing c.args.scene.now c.args.out.now.items (λ s. steps_text s c.args.graph.now (taken c.args.beside))
    (λ s shows. none_beside s c.args.graph.now c.args.beside c.in-None.is)
