-- The system of a program: the constraints of its units one behind the other, its call sites, and the owner of each
-- variable.
use Rattle.std.specs.Prelude.{◌≡◌, ℕ, List, [], ◌∷◌, ◌++◌, slice_get, Option, None, Some, Bool}
use Rattle.lattice_core.specs.View.{LatticeView}
use Rattle.flow_graph.specs.declared.constraint.Constraint.{Constraint}
use Rattle.flow_graph.specs.System.{System}
use Rattle.flow_graph.specs.Unfolding.{NamesElementsIn}
use Rattle.name_rules.specs.Spellings.{Place}
use Rattle.name_rules.specs.Scopes.{Names}
use Rattle.type_rules.specs.Program.{Source, names_of}
use Rattle.constraint_rules.specs.Demands.{items_demand}
use Rattle.constraint_rules.specs.Starts.{items_starts}
use Rattle.row_rules.specs.Sites.{functions_of, owners_among, site_places, sites_among}
use Rattle.row_rules.specs.Starting.{Start, Selection, flag_among}
use Rattle.row_rules.specs.Worlds.{World, numbered_from}
use Rattle.row_rules.specs.Annotations.{has_access}
use Rattle.constraint_rules.specs.Selections.{items_selections}

-- a program: its units, the lattices, the lattice and element that each annotation word names, and the numbers of each
-- index word
pub record Program : Type 0 where
  pub sources : List Source
  pub lattices : List LatticeView
  pub mark : Place → Option (ℕ × ℕ)
  pub index : Place → List ℕ

-- the skeletons of units, one unit behind the other
abbrev pub starts_among : Bool → Names → List Source → List Start
starts_among access s [] = []
starts_among access s (it ∷ sources) = items_starts access it.spelling s it.items ++ starts_among access s sources

-- all skeletons, in the order in which their variables are numbered
abbrev pub starts_of : Bool → List Source → List Start
starts_of access sources = starts_among access (names_of sources) sources

-- the selections by a type in units, one unit behind the other
abbrev pub selections_among : Names → List Source → List Selection
selections_among s [] = []
selections_among s (it ∷ sources) = items_selections it.spelling s it.items ++ selections_among s sources

-- which associations are candidates of the selection at a place: by the types that are known behind all units
abbrev pub candidate_in : List Source → Place → ℕ → Bool
candidate_in sources p n = flag_among (selections_among (names_of sources) sources) p n

-- what is known of a program while the constraints of one of its units are made
abbrev pub world_of : Program → Source → World
world_of p it = record {
  spelling = it.spelling;
  names = names_of p.sources;
  skeletons = numbered_from 0 (starts_of (has_access p.lattices) p.sources);
  sites = site_places (starts_of (has_access p.lattices) p.sources);
  lattices = p.lattices;
  mark = p.mark;
  index = p.index;
  candidate = candidate_in p.sources;
  own = None;
}

-- the constraints of units, one unit behind the other
abbrev pub demands_among : Program → List Source → List Constraint
demands_among p [] = []
demands_among p (it ∷ sources) = items_demand (world_of p it) it.items ++ demands_among p sources

-- each constant and bound of a lattice names an element of it
abbrev pub AreNamed : List LatticeView → System → Type 0
AreNamed lattices sys =
    (n : ℕ) (view : LatticeView) → slice_get lattices n ≡ Some view → NamesElementsIn sys n view.order

-- the system of a program
abbrev pub system_of : Program → System
system_of p = record {
  constraints = demands_among p p.sources;
  sites = sites_among (functions_of (names_of p.sources)) (starts_of (has_access p.lattices) p.sources);
  owners = owners_among (functions_of (names_of p.sources)) (starts_of (has_access p.lattices) p.sources);
}
