use Rattle.flow_query.specs.Answers.{FromText, NoFrom}
use Rattle.annotate.proofs.Writing.{none_of, on_ok, some_of}
use Rattle.flow_query.proofs.Listing.{no_from_at, one_from}
use Rattle.flow_query.proofs.Keeping.{one_in}
use Rattle.flow_query.proofs.sections.put_from.Goals as goal

-- a constraint that is no constant whose element reaches the variable gives no text
pub returns-in_default : goal.returns-in_default
returns-in_default c =
    let section = c.args.section.now in
    none_of c.args.scene.now c.args.out.now.items
    (λ s text. FromText s section.graph.now section.lattice section.var c.args.number text)
    (λ s shows. NoFrom c.in_default.ensures.none)

-- a constant without a walk to the variable does not lead to it, and gives no text
pub returns-in_default-get : goal.returns-in_default-get
returns-in_default-get c =
    let section = c.args.section.now in
    let constant = c.in-Some.ensures.found in
    none_of c.args.scene.now c.args.out.now.items
    (λ s text. FromText s section.graph.now section.lattice section.var c.args.number text)
    (λ s shows. NoFrom (no_from_at section.graph.now section.lattice section.var c.args.number c.in-Some.at constant
    (c.requires.walks.done c.args.number constant.0 c.in-Some.at constant.1 section.var
    (one_in section.var) c.in_default-get.ensures)))

-- a constant with a walk to the variable gives its line and the walk
pub returns : goal.returns
returns c =
    let section = c.args.section.now in
    let shown = c.requires.walks.sound c.in-Some.at section.var c.in-Some-get.walk.now c.in-Some-get.ensures in
    on_ok c.put_lines.result c.put_lines.ensures (λ put.
    some_of (λ s text. FromText s section.graph.now section.lattice section.var c.args.number text) put (λ s shows.
    one_from section.graph.now section.lattice section.var c.args.number c.in-Some.at c.leads_are_walks.ensures
    c.requires.section.owned s c.in-Some-get.walk.now c.in-Some.ensures.found shown.0 shown.1))
