-- The system of units, by their tapes.
use Rattle.std.specs.Prelude.{◌≡◌, ℕ, List, [], ◌∷◌, ◌++◌, length, Option, None, Bool}
use Rattle.lattice_core.specs.View.{LatticeView}
use Rattle.flow_graph.specs.declared.constraint.Constraint.{Constraint}
use Rattle.flow_graph.specs.System.{System}
use Rattle.qual_types.specs.Rows.{skel_of}
use Rattle.name_rules.specs.Spellings.{Place, Spelling}
use Rattle.name_rules.specs.Scopes.{Names}
use Rattle.name_rules.specs.NameSteps.Units.{Tape}
use Rattle.row_rules.specs.Starting.{Start, Selection, flag_among}
use Rattle.row_rules.specs.Sites.{functions_of, owners_among, site_places, sites_among, variables_among}
use Rattle.row_rules.specs.Worlds.{World, numbered_from, skeleton_among}
use Rattle.unit_starts.specs.PositionLaws.Positions.{AreThose}
use Rattle.row_rules.specs.RowSteps.Found.{unit_rows}
use Rattle.row_rules.specs.RowSteps.Starting.{unit_starts, selections_found}
use Rattle.unit_shapes.specs.Views.{names_in}
use Rattle.unit_types.specs.Resolved.{Resolved, tapes_of}
use Rattle.unit_starts.specs.declared.unit_skeletons.skeletons.Skeletons.{Skeletons}
use Rattle.unit_system.specs.Places.{skeleton_at}
use Rattle.row_rules.specs.Annotations.{has_access}
use Rattle.name_rules.specs.ShapeSteps.State.{nothing}

-- what is known of names behind all units
abbrev pub names_on : Resolved → Names
names_on it = names_in it.rows it.names

-- the skeletons of units, in the order of their tapes
abbrev pub starts_among : Bool → Names → List Tape → List Start
starts_among access s [] = []
starts_among access s (it ∷ tapes) = unit_starts access it.spelling s it.ops ++ starts_among access s tapes

-- the skeletons of all units; `access`: whether some lattice bounds accesses
abbrev pub starts_on : Bool → Resolved → List Start
starts_on access it = starts_among access (names_on it) (tapes_of it.units)

-- which associations are candidates of each selection by a type
abbrev pub selections_among : Names → List Tape → List Selection
selections_among s [] = []
selections_among s (it ∷ tapes) = selections_found it.spelling s nothing it.ops ++ selections_among s tapes

-- which associations are candidates, of the selections in all units
abbrev pub selections_on : Resolved → List Selection
selections_on it = selections_among (names_on it) (tapes_of it.units)

-- What is said of words: the lattices, the lattice and element that an annotation word names, and the numbers of an
-- index word.
pub record Meant : Type 0 where
  pub lattices : List LatticeView
  pub mark : Place → Option (ℕ × ℕ)
  pub index : Place → List ℕ

-- what is known while the constraints of a unit are found, where these skeletons begin
abbrev pub world_by : Meant → Names → List Start → List Selection → Spelling → World
world_by meant s starts selections u = record {
  spelling = u;
  names = s;
  skeletons = numbered_from 0 starts;
  sites = site_places starts;
  lattices = meant.lattices;
  mark = meant.mark;
  index = meant.index;
  candidate = flag_among selections;
  own = None;
}

-- the constraints of units, in the order of their tapes
abbrev pub rows_among : Meant → Names → List Start → List Selection → List Tape → List Constraint
rows_among meant s starts selections [] = []
rows_among meant s starts selections (it ∷ tapes) =
    unit_rows (world_by meant s starts selections it.spelling) it.ops ++ rows_among meant s starts selections tapes

-- the system of units, by their names and tapes, and by where skeletons begin
abbrev pub system_by : Meant → Names → List Start → List Selection → List Tape → System
system_by meant s starts selections tapes = record {
  constraints = rows_among meant s starts selections tapes;
  sites = sites_among (functions_of s) starts;
  owners = owners_among (functions_of s) starts;
}

-- the system of units
abbrev pub system_on : Meant → Resolved → System
system_on meant it =
    system_by meant (names_on it) (starts_on (has_access meant.lattices) it) (selections_on it) (tapes_of it.units)

-- skeletons by their numbers, one behind the other: each is one of those that begin so, the first at each place found
-- by it
pub record AreNumbered (all : List Start) (it : Skeletons) : Type 0 where
  pub count : length it.vars ≡ variables_among all
  pub found : (p : Place) → skel_of it.vars (skeleton_at it p) ≡ skeleton_among (numbered_from 0 all) p
  pub marked : AreThose it.vars all
