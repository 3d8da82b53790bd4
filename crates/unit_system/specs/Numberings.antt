-- What has numbers before there are constraints.
use Rattle.std.specs.Prelude.{◌≡◌, [], Bool, ℕ}
use Rattle.name_rules.specs.Spellings.{Place}
use Rattle.name_tables.specs.PlaceMap.Values.{value_at}
use Rattle.row_rules.specs.Sites.{functions_of, owners_among, site_places, sites_among}
use Rattle.unit_types.specs.Resolved.{Resolved}
use Rattle.unit_starts.specs.UnitSkeletons.Numbers.{place_among}
use Rattle.unit_system.specs.declared.system.Numbering.{Numbering}
use Rattle.unit_system.specs.Systems.{names_on, starts_on, AreNumbered, selections_on}
use Rattle.row_rules.specs.Starting.{flag_among}
use Rattle.name_tables.specs.PlaceFlags.Flags.{flag_at}

-- the skeletons of units, their call sites with the number of the first at each place, and the owner of each variable;
-- no constraints
pub record IsNumberingOf (access : Bool) (units : Resolved) (it : Numbering) : Type 0 where
  pub skeletons : AreNumbered (starts_on access units) it.skeletons
  pub sites : it.graph.sites ≡ sites_among (functions_of (names_on units)) (starts_on access units)
  pub owners : it.graph.owners ≡ owners_among (functions_of (names_on units)) (starts_on access units)
  pub constraints : it.graph.constraints ≡ []
  pub places : (p : Place) → value_at it.places p ≡ place_among 0 (site_places (starts_on access units)) p
  pub candidates : (p : Place) (n : ℕ) → flag_at it.candidates p n ≡ flag_among (selections_on units) p n
