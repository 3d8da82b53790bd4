use Rattle.std.proofs.Common.{◌∙◌, ap, subst, sym}
use Rattle.lattice_core.specs.View.{LatticeView}
use Rattle.flow_rules.specs.Adding.{with}
use Rattle.row_rules.specs.Forming.{formed_in, ways_in}
use Rattle.row_world.specs.Shown.{skel}
use Rattle.row_adding.specs.Forming.{ways_of}
use Rattle.row_adding.proofs.Passing.{none_formed}
use Rattle.row_adding.proofs.forming.form.Goals as goal

-- where nothing passes in any lattice, the graph has what passes inside a skeleton as it is
pub returns-then-passes_none-clause-ok : goal.returns-then-passes_none-clause-ok
returns-then-passes_none-clause-ok c =
    let k = c.args.known.now in
    λ w s. none_formed (ways_of c.all_ways-ways.result) w.skeletons w.names.aggregates c.args.span.now
    (skel k c.args.at) c.args.graph.now
    (sym c.passes_none.ensures ∙ c.if-passes_none.true)
    ∙ ap (λ ways.
    with c.args.graph.now (formed_in ways w.skeletons w.names.aggregates c.args.span.now (skel k c.args.at)))
    (c.all_ways-ways.ensures ∙ ap (λ (views : _). ways_in views) (sym s.lattices))
