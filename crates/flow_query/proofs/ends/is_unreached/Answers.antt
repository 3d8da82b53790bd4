use Rattle.std.proofs.Common.{sym, ◌∙◌, ap}
use Rattle.std.specs.Int.{bit_at}
use Rattle.std.proofs.lemmas.Bool.{eqb-true}
use Rattle.flow_query.proofs.Listing.{nothing_led}
use Rattle.flow_query.proofs.ends.is_unreached.Goals as goal

-- where no element reaches the variable, no constant leads to it
pub returns : goal.returns
returns c = λ none.
    let section = c.args.section.now in
    nothing_led section.graph.now section.lattice section.var c.reached.result c.leads_are_walks.ensures
    c.requires.owned
    (λ e lead. ap (λ s. bit_at s e) c.reached.ensures ∙ (c.requires.solution.reached section.var e).1 lead)
    (sym c.number.ensures ∙ eqb-true c.number.result 0 none)
