-- Entries that keep what they hide, and a table of the newest entry of each name.
use Rattle.std.specs.Prelude.{◌≡◌, ℕ, ◌+◌, nat_eq, List, [], ◌∷◌, length, map, get_or, if◌then◌else◌}
use Rattle.name_lists.specs.declared.list.Entry.{Entry}

-- a name with what it stands for
abbrev pub pair_of : {V : Type 0} → Entry V → ℕ × V
pair_of it = (it.name, it.value)

-- the link to a name's newest entry, where the newest entry is first: how many entries there are up to it, itself
-- among them, and 0 where there is none
abbrev pub link_of : {V : Type 0} → List (ℕ × V) → ℕ → ℕ
link_of [] name = 0
link_of (it ∷ entries) name = if nat_eq it.0 name then length entries + 1 else link_of entries name

-- each entry has the link to the one of its name that was the newest before it
abbrev pub HaveLinks : {V : Type 0} → List (Entry V) → Type 0
HaveLinks [] = Unit {0}
HaveLinks (it ∷ entries) = (it.hides ≡ link_of (map pair_of entries) it.name) × HaveLinks entries

-- the table has the link of each name, the entries have those of what they hide
pub record AreLinked {V : Type 0} (entries : List (Entry V)) (newest : List ℕ) : Type 0 where
  pub tabled : (name : ℕ) → get_or newest name 0 ≡ link_of (map pair_of entries) name
  pub hidden : HaveLinks entries
