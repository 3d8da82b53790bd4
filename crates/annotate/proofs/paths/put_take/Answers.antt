use Rattle.std.proofs.Common.{ap, sym, ◌∙◌, slice_get}
use Rattle.std.specs.declared.option.Option.{Option}
use Rattle.flow_graph.specs.declared.constraint.Constraint.{Constraint}
use Rattle.annotate.specs.Texts.{constraint_text}
use Rattle.annotate.proofs.Writing.{on_ok, nothing, same_text}
use Rattle.annotate.proofs.paths.put_take.Goals as goal

-- a step that takes a constraint of the graph gives its line
pub returns-in-Some : goal.returns-in-Some
returns-in-Some c =
    on_ok c.put_constraint.result c.put_constraint.ensures (λ put.
    same_text (λ s. constraint_text s c.args.at (slice_get c.args.graph.now.constraints c.args.at)) put
    (λ s shows.
    ap (λ (o : Option Constraint). constraint_text s c.args.at o) (sym c.in-Some.is ∙ c.constraint_of.ensures)))

-- a step that takes no constraint of the graph gives nothing
pub returns-in-None : goal.returns-in-None
returns-in-None c =
    nothing c.args.scene.now c.args.out.now.items
    (λ s. constraint_text s c.args.at (slice_get c.args.graph.now.constraints c.args.at))
    (λ s shows.
    ap (λ (o : Option Constraint). constraint_text s c.args.at o) (sym c.in-None.is ∙ c.constraint_of.ensures))
