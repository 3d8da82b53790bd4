-- What is known of a program while constraints are added.
use Rattle.std.proofs.Common.{◌≡◌, ℕ, List, Option, Some, None, refl, sym, ◌∙◌, ap}
use Rattle.qual_types.specs.declared.row.VarRow.{VarRow}
use Rattle.qual_types.specs.Rows.{skel_of}
use Rattle.name_rules.specs.Spellings.{Place}
use Rattle.name_tables.specs.PlaceMap.Values.{number_at, value_at}
use Rattle.name_tables.specs.PlaceFlags.Flags.{flag_at}
use Rattle.row_rules.specs.Annotations.{access_lattices, has_access}
use Rattle.row_rules.specs.Sites.{site_places}
use Rattle.row_rules.specs.Starting.{flag_among}
use Rattle.row_world.specs.Shown.{or_nowhere}
use Rattle.unit_starts.specs.declared.unit_skeletons.skeletons.Skeletons.{Skeletons}
use Rattle.unit_starts.specs.UnitSkeletons.Found.{number_or_none}
use Rattle.unit_starts.specs.UnitSkeletons.Numbers.{place_among}
use Rattle.unit_starts.proofs.UnitSkeletons.Counting.{some_number}
use Rattle.unit_system.specs.declared.adding.Shared.{Shared}
use Rattle.unit_system.specs.Sharing.{IsShared}
use Rattle.unit_system.specs.Systems.{starts_on, selections_on, AreNumbered}

no_number : (o : Option ℕ) → or_nowhere o ≡ number_or_none o
no_number None = refl
no_number (Some n) = refl

-- the skeletons and call sites of a program are found by their places
pub shared : (it : Shared) (skeletons : Skeletons) → it.names.now ≡ it.program.now.names
    → it.vars.now ≡ skeletons.vars → it.starts.now ≡ skeletons.starts
    → AreNumbered (starts_on (has_access it.lattices.now) it.program.now) skeletons
    → ((p : Place)
    → value_at it.sites.now p ≡ place_among 0 (site_places (starts_on (has_access it.lattices.now) it.program.now)) p)
    → ((p : Place) (n : ℕ) → flag_at it.candidates.now p n ≡ flag_among (selections_on it.program.now) p n)
    → it.access ≡ access_lattices it.lattices.now → IsShared it
shared it skeletons names vars starts are sites candidates access = record {
  names = names;
  skeletons = λ p.
      ap (λ (rows : List VarRow). skel_of rows (or_nowhere (number_at it.starts.now p))) vars
      ∙ ap (skel_of skeletons.vars)
      (ap (λ found. or_nowhere (number_at found p)) starts ∙ no_number (number_at skeletons.starts p))
      ∙ are.found p;
  sites = λ p n is.
      some_number (site_places (starts_on (has_access it.lattices.now) it.program.now)) p n (sym (sites p) ∙ is);
  candidates = candidates;
  access = access;
}
