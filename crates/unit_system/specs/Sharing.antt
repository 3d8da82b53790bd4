-- What is known of a program while the constraints of its units are made.
use Rattle.std.specs.Prelude.{◌≡◌, ℕ, List, Some}
use Rattle.lattice_core.specs.View.{LatticeView}
use Rattle.flow_graph.specs.declared.constraint.Constraint.{Constraint}
use Rattle.qual_types.specs.Rows.{skel_of}
use Rattle.name_rules.specs.Spellings.{Place, Spelling}
use Rattle.name_rules.specs.NameSteps.Units.{Tape}
use Rattle.name_tables.specs.declared.place_map.map.PlaceMap.{PlaceMap}
use Rattle.name_tables.specs.PlaceMap.Values.{number_at, value_at}
use Rattle.index_words.specs.Marks.{IndexMark, index_in}
use Rattle.row_rules.specs.Sites.{site_places}
use Rattle.row_rules.specs.Worlds.{World, numbered_from, skeleton_among, number_among}
use Rattle.row_rules.specs.RowSteps.Found.{unit_rows}
use Rattle.row_world.specs.Shown.{or_nowhere}
use Rattle.unit_types.specs.Resolved.{tapes_of}
use Rattle.unit_system.specs.declared.adding.Shared.{Shared}
use Rattle.unit_system.specs.Systems.{Meant, names_on, starts_on, world_by, rows_among, selections_on}
use Rattle.row_rules.specs.Annotations.{has_access, access_lattices}
use Rattle.row_rules.specs.Starting.{flag_among}
use Rattle.name_tables.specs.PlaceFlags.Flags.{flag_at}

-- what is said of words by lattices, by a map of what annotation words name and by the index words of a prelude
abbrev pub meant_by : List LatticeView → PlaceMap (ℕ × ℕ) → List IndexMark → Meant
meant_by lattices marks prelude = record { lattices = lattices; mark = value_at marks; index = index_in prelude }

-- what is said of words, by what is known of a program
abbrev pub meant_in : Shared → Meant
meant_in it = meant_by it.lattices.now it.marks.now it.prelude.now

-- the world of a unit
abbrev pub world_in : Shared → Spelling → World
world_in it u =
    world_by (meant_in it) (names_on it.program.now) (starts_on (has_access it.lattices.now) it.program.now)
    (selections_on it.program.now) u

-- the constraints of a unit
abbrev pub tape_rows : Shared → Tape → List Constraint
tape_rows it tape = unit_rows (world_in it tape.spelling) tape.ops

-- the constraints of all units
abbrev pub rows_on : Shared → List Constraint
rows_on it =
    rows_among (meant_in it) (names_on it.program.now) (starts_on (has_access it.lattices.now) it.program.now)
    (selections_on it.program.now) (tapes_of it.program.now.units)

-- the names are those of the program, and its skeletons and call sites are found by their places
pub record IsShared (it : Shared) : Type 0 where
  pub names : it.names.now ≡ it.program.now.names
  pub skeletons : (p : Place)
      → skel_of it.vars.now (or_nowhere (number_at it.starts.now p))
      ≡ skeleton_among (numbered_from 0 (starts_on (has_access it.lattices.now) it.program.now)) p
  pub sites : (p : Place) (n : ℕ) → value_at it.sites.now p ≡ Some n
      → n ≡ number_among 0 (site_places (starts_on (has_access it.lattices.now) it.program.now)) p
  pub candidates : (p : Place) (n : ℕ) → flag_at it.candidates.now p n ≡ flag_among (selections_on it.program.now) p n
  pub access : it.access ≡ access_lattices it.lattices.now
