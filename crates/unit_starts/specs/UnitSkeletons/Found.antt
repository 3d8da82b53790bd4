-- Skeletons that are found by their places.
use Rattle.std.specs.Prelude.{◌≡◌, ℕ, ◌+◌, ◌<◌, List, ◌++◌, length, Option, Some, None}
use Rattle.qual_base.specs.declared.places.Owner.{Owner}
use Rattle.flow_graph.specs.declared.constraint.Site.{Site}
use Rattle.qual_types.specs.declared.row.VarRow.{VarRow}
use Rattle.qual_types.specs.Skel.{Skel}
use Rattle.qual_types.specs.Rows.{skel_of}
use Rattle.qual_types.specs.Table.{mark_of}
use Rattle.unit_starts.specs.PositionLaws.Positions.{IsOneOf}
use Rattle.name_rules.specs.Spellings.{Place}
use Rattle.name_tables.specs.declared.place_map.index.PlaceIndex.{PlaceIndex}
use Rattle.name_tables.specs.PlaceMap.Values.{number_at}
use Rattle.row_rules.specs.Starting.{Start}
use Rattle.row_rules.specs.Worlds.{Numbered, numbered_from, skeleton_among}
use Rattle.row_rules.specs.Sites.{variables_among}

-- a number, where there is one, is below this count
abbrev pub IsBelow : ℕ → Option ℕ → Type 0
IsBelow count None = Unit {0}
IsBelow count (Some n) = n < count

-- the numbers that are found are of the table
abbrev pub AreBelow : List VarRow → PlaceIndex → Type 0
AreBelow rows index = (p : Place) → IsBelow (length rows) (number_at index p)

-- the skeleton of a number that was found, or this where none was
abbrev pub skel_or : List VarRow → Option ℕ → Skel → Skel
skel_or rows None other = other
skel_or rows (Some n) other = skel_of rows n

-- the skeleton of a place, among those that were found and these
abbrev pub found_with : List VarRow → PlaceIndex → List Numbered → Place → Skel
found_with rows index others p = skel_or rows (number_at index p) (skeleton_among others p)

-- a number of no skeleton, where none was found
abbrev pub number_or_none : Option ℕ → ℕ
number_or_none None = 4294967295
number_or_none (Some n) = n

-- each skeleton of a table is one of these
abbrev pub AreMarked : List VarRow → List Numbered → Type 0
AreMarked rows all = (n : ℕ) (mark : ℕ × ℕ) → mark_of rows n ≡ Some mark → IsOneOf rows all n mark

-- a table has the skeletons of a program that come before these; these are not numbered yet
pub record IsNumbering (rows : List VarRow) (index : PlaceIndex) (rest all : List Start) : Type 0 where
  pub below : AreBelow rows index
  pub count : length rows + variables_among rest ≡ variables_among all
  pub found : (p : Place) → found_with rows index (numbered_from (length rows) rest) p
      ≡ skeleton_among (numbered_from 0 all) p
  pub before : List Numbered
  pub split : numbered_from 0 all ≡ before ++ numbered_from (length rows) rest
  pub marked : AreMarked rows before

-- the call site at a place, of the function of this number, in what belongs to this owner
abbrev pub site_at : Place → ℕ → Owner → Site
site_at at target owner = record { unit = at.0; token = at.1; target = target; owner = owner }
