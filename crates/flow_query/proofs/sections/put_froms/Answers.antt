use Rattle.std.proofs.Common.{length}
use Rattle.flow_query.specs.Answers.{FromText, FromsText, NoFrom}
use Rattle.annotate.proofs.Writing.{none_of}
use Rattle.flow_query.proofs.Those.{none_below}
use Rattle.flow_query.proofs.sections.put_froms.Goals as goal

-- where no element reaches the variable, no constraint gives a text before it
pub returns-then-is_unreached : goal.returns-then-is_unreached
returns-then-is_unreached c =
    let section = c.args.section.now in
    let sys = section.graph.now in
    none_of c.args.scene.now c.args.out.now.items (λ s text. FromsText s sys section.lattice section.var text)
    (λ s shows. none_below (FromText s sys section.lattice section.var) (length sys.constraints)
    (λ number. NoFrom (c.is_unreached.ensures c.if-is_unreached.true number)))
