use Rattle.flow_query.proofs.Listing.{not_in, not_led_from}
use Rattle.flow_query.proofs.ends.is_candidate.Goals as goal

-- a variable of a constant whose element does not reach the variable asked of does not lead there
pub returns : goal.returns
returns c = λ out.
    let section = c.args.section.now in
    not_led_from section.graph.now section.lattice section.var c.args.elem c.args.at c.leads_are_walks.ensures
    c.requires.section.owned c.requires.constant.number c.requires.constant.stands
    (λ lead. not_in c.has_element.result c.reached.result c.args.elem _ c.has_element.ensures c.reached.ensures out
    ((c.requires.section.solution.reached section.var c.args.elem).1 lead))

pub has_element-requires : goal.has_element-requires
has_element-requires c = c.requires.constant.low
