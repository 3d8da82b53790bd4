use Rattle.std.proofs.Common.{◌≡◌, ◌++◌, [], drop, length, map}
use Rattle.name_rules.specs.Spellings.{Place}
use Rattle.name_tables.specs.PlaceMap.Values.{value_at, or_else}
use Rattle.row_rules.specs.Sites.{sites_among, site_places}
use Rattle.unit_starts.specs.Views.{start_in}
use Rattle.unit_starts.specs.UnitSkeletons.Numbers.{place_among}
use Rattle.unit_starts.proofs.unit_skeletons.sites.find_sites.Given as goal

-- invariant of the loop: the sites and their places, found and still to come, are those of all; no constraint, no owner
abbrev pub invariant-loop-start : goal.invariant-loop-start
invariant-loop-start l =
    record {
      sites : l.it.graph.sites ++ sites_among l.functions (map (start_in l.types) (drop l.start-index l.starts))
          ≡ sites_among l.functions (map (start_in l.types) l.starts);
      constraints : l.it.graph.constraints ≡ [];
      owners : l.it.graph.owners ≡ [];
      places : (p : Place)
          → or_else (value_at l.it.places p)
          (place_among (length l.it.graph.sites) (site_places (map (start_in l.types) (drop l.start-index l.starts))) p)
          ≡ place_among 0 (site_places (map (start_in l.types) l.starts)) p;
    }
