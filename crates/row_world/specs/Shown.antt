-- What is known while constraints are made shows a world.
use Rattle.std.specs.Prelude.{◌≡◌, ℕ, ◌<◌, List, Option, Some, None, slice_get}
use Rattle.lattice_core.specs.declared.Entry.{Entry}
use Rattle.lattice_core.specs.View.{LatticeView}
use Rattle.type_table.specs.Types.{CType}
use Rattle.type_table.specs.Rows.{type_of}
use Rattle.qual_types.specs.declared.row.VarRow.{VarRow}
use Rattle.qual_types.specs.Skel.{Skel}
use Rattle.qual_types.specs.Rows.{skel_of}
use Rattle.name_rules.specs.Spellings.{Place}
use Rattle.name_tables.specs.UnitSpelling.Spelled.{spelling_of}
use Rattle.name_state.specs.UnitNames.Shown.{names_of}
use Rattle.name_tables.specs.PlaceMap.Values.{number_at, value_at}
use Rattle.index_words.specs.Marks.{index_in}
use Rattle.row_rules.specs.Worlds.{World, skeleton, site_number}
use Rattle.row_rules.specs.Vals.{Val}
use Rattle.row_rules.specs.Annotations.{entry_of_view, access_lattices}
use Rattle.row_world.specs.declared.known.Known.{Known}
use Rattle.row_world.specs.declared.operand.Operand.{Operand}
use Rattle.name_tables.specs.PlaceFlags.Flags.{flag_at}

-- a number past every table, which stands for no skeleton
abbrev pub or_nowhere : Option ℕ → ℕ
or_nowhere None = 4294967295
or_nowhere (Some n) = n

-- the skeleton of a number
abbrev pub skel : Known → ℕ → Skel
skel known n = skel_of known.vars.now n

-- the type of a number
abbrev pub type : Known → ℕ → CType
type known n = type_of known.types.now n

-- an operand with its skeleton in place of that one's number
abbrev pub val_in : List VarRow → Operand → Val
val_in rows it = record { is_place = it.is_place; skel = skel_of rows it.skel }

-- an operand with its skeleton in place of that one's number, by what is known
abbrev pub val : Known → Operand → Val
val known it = val_in known.vars.now it

-- What is known shows a world: names with the types of a table in place of their numbers, the skeleton at each place by
-- its number, the number of each call site that there is, what annotation words name, and the numbers of index words.
-- Whose body this is in is left open.
pub record Shows (known : Known) (w : World) : Type 0 where
  pub spelling : w.spelling ≡ spelling_of known.spelling.now
  pub names : w.names ≡ names_of (type_of known.types.now) known.names.now
  pub skeletons : (p : Place) → skel_of known.vars.now (or_nowhere (number_at known.starts.now p)) ≡ skeleton w p
  pub sites : (p : Place) (n : ℕ) → value_at known.sites.now p ≡ Some n → n ≡ site_number w p
  pub lattices : w.lattices ≡ known.lattices.now
  pub marks : (p : Place) → value_at known.marks.now p ≡ w.mark p
  pub index : (p : Place) → w.index p ≡ index_in known.prelude.now p
  pub candidates : (p : Place) (n : ℕ) → flag_at known.candidates.now p n ≡ w.candidate p n
  pub access : known.access ≡ access_lattices w.lattices

-- the element that a mark names in some lattices, with its attributes
abbrev pub entry_of : List LatticeView → ℕ × ℕ → Option Entry
entry_of lattices m = entry_of_view (slice_get lattices m.0) m.1

-- a lattice and an element that constraints may name
abbrev pub IsMark : ℕ × ℕ → Type 0
IsMark m = (m.0 < 16) × (m.1 < 64)
