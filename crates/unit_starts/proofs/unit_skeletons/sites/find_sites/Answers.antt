use Rattle.std.proofs.Common.{List, ◌++◌, ◌+◌, drop, map, sym, ◌∙◌, ap, append_assoc}
use Rattle.flow_graph.specs.declared.constraint.Site.{Site}
use Rattle.name_rules.specs.Spellings.{Place}
use Rattle.name_tables.specs.PlaceMap.Values.{value_at}
use Rattle.row_rules.specs.Starting as rules
use Rattle.row_rules.specs.Sites.{site_of, sites_among, site_places}
use Rattle.unit_starts.specs.Views.{start_in}
use Rattle.unit_starts.specs.UnitSkeletons.Numbers.{place_among}
use Rattle.unit_starts.proofs.UnitSkeletons.Placing.{one_left}
use Rattle.unit_starts.proofs.UnitSkeletons.Siting.{sites_next}
use Rattle.unit_starts.proofs.unit_skeletons.sites.find_sites.Goals as goal

-- one skeleton more keeps the sites found and still to come those of all, with the first at each place
pub loop-start-preserved : goal.loop-start-preserved
loop-start-preserved c =
    let it = c.loop-start.it in
    let after = c.add.new.self in
    let more = c.in_ok-add.ensures in
    let types = c.args.types.now in
    let functions = c.args.functions.now in
    let starts = c.args.starts.now in
    let i = c.loop-start.start-index in
    let start = c.start-item.result in
    let rest = map (start_in types) (drop (i + 1) starts) in
    record {
      sites = ap (λ (l : List Site). l ++ sites_among functions rest) more.sites
          ∙ append_assoc it.graph.sites (site_of functions (start_in types start) start.calls)
          (sites_among functions rest)
          ∙ ap (λ (all : List rules.Start). it.graph.sites ++ sites_among functions all)
          (sym (one_left (start_in types) starts i start c.loop-start-test.true c.start-item.is))
          ∙ c.loop-start.invariant.sites;
      constraints = more.constraints ∙ c.loop-start.invariant.constraints;
      owners = more.owners ∙ c.loop-start.invariant.owners;
      places = sites_next types functions starts i start it.graph.sites after.graph.sites (value_at it.places)
          (value_at after.places) (λ (p : Place). place_among 0 (site_places (map (start_in types) starts)) p)
          c.loop-start-test.true c.start-item.is more.sites more.places c.loop-start.invariant.places;
    }
