-- Skeletons that are found by their places.
use Rattle.std.specs.Prelude.{ℕ}
use Rattle.name_rules.specs.Spellings.{Place}
use Rattle.name_tables.specs.PlaceMap.Values.{number_at}
use Rattle.unit_starts.specs.declared.unit_skeletons.skeletons.Skeletons.{Skeletons}
use Rattle.unit_starts.specs.UnitSkeletons.Found.{number_or_none}

-- the number of the skeleton at a place
abbrev pub skeleton_at : Skeletons → Place → ℕ
skeleton_at it p = number_or_none (number_at it.starts p)
