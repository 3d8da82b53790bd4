-- Entries by their numbers: names and levels.
use Rattle.std.specs.Prelude.{◌≡◌, ◌≢◌, ℕ, ◌<◌, List, length, map, slice_get, position}
use Rattle.std.specs.declared.option.Option.{Option}
use Rattle.std.specs.Str.{bytes_eq}
use Rattle.lattice_core.specs.declared.Entry.{Entry}
use Rattle.lattice_core.specs.declared.Level.{Level}

-- the name of an entry
abbrev pub name_of : Entry → List ℕ
name_of entry = entry.name

-- the level of an entry
abbrev pub level_of : Entry → Level
level_of entry = entry.level

-- the name of entry k; none past the last
abbrev pub name_at : List Entry → ℕ → Option (List ℕ)
name_at entries k = slice_get (map name_of entries) k

-- the level of entry k; none past the last
abbrev pub level_at : List Entry → ℕ → Option Level
level_at entries k = slice_get (map level_of entries) k

-- the number of the first entry with a name
abbrev pub number_of : List Entry → List ℕ → Option ℕ
number_of entries name = position (λ entry. bytes_eq name entry.name) entries

-- no two of the first k entries have one name
abbrev pub AreDistinct : List Entry → ℕ → Type 0
AreDistinct entries k = (i j : ℕ) → i < j → j < k → name_at entries i ≢ name_at entries j

-- entry k is the first whose name an earlier entry has
pub record IsFirstRepeated (entries : List Entry) (k : ℕ) : Type 0 where
  pub within : k < length entries
  pub earlier : (i : ℕ) × (i < k) × (name_at entries i ≡ name_at entries k)
  pub first : AreDistinct entries k

-- the first k entries have one level
abbrev pub AreOfOneLevel : List Entry → ℕ → Type 0
AreOfOneLevel entries k = (i : ℕ) → i < k → level_at entries i ≡ level_at entries 0

-- entry k is the first whose level is not that of the first entry
pub record IsFirstMixed (entries : List Entry) (k : ℕ) : Type 0 where
  pub within : k < length entries
  pub other : level_at entries k ≢ level_at entries 0
  pub first : AreOfOneLevel entries k
