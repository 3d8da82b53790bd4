use Rattle.flow_query.specs.Answers.{ToText, NoTo}
use Rattle.annotate.proofs.Writing.{none_of}
use Rattle.flow_query.proofs.sections.put_to.Goals as goal

-- a constraint that is no bound gives no text
pub returns-in-None : goal.returns-in-None
returns-in-None c =
    let section = c.args.section.now in
    none_of c.args.scene.now c.args.out.now.items
    (λ s text. ToText s section.graph.now section.lattice section.var c.args.number text)
    (λ s shows. NoTo c.in-None.ensures.none)
