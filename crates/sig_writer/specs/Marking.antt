-- How marks and index words come to be, a summary at a time.
use Rattle.std.specs.Prelude.{◌≡◌, ℕ, zero, suc, ◌+◌, ◌-◌, ◌<◌, ◌≤◌, nat_eq, Bool, true, false, ◌⊎◌, ◌↔◌, List, [], ◌∷◌}
use Rattle.std.specs.Prelude.{◌++◌, length, slice_get, Option, None, Some, if◌then◌else◌}
use Rattle.std.specs.List.{Contains}
use Rattle.std.specs.declared.alloc.Global.{Global}
use Rattle.std.specs.declared.vec.Vec.{Vec}
use Rattle.index_words.specs.Marks.{AreAscending}
use Rattle.match_summary.specs.declared.reason.Summary.{Summary}
use Rattle.match_summary.specs.Summary.{HasPair}
use Rattle.sig_writer.specs.declared.nodes.Nodes.{Nodes}
use Rattle.sig_writer.specs.declared.marks.Pair.{Pair}
use Rattle.sig_writer.specs.Marks.{IsJoined, marked_up_to}

-- the node of a number is marked
abbrev pub IsMarked : List Bool → ℕ → Type 0
IsMarked marks i = slice_get marks i ≡ Some true

-- a summary joins a node, by its number, with another one
abbrev pub IsEnd : Nodes → Summary → ℕ → Type 0
IsEnd nodes row i = (pair : Pair) × IsJoined nodes row pair × ((pair.from ≡ i) ⊎ (pair.to ≡ i))

-- a summary leads from another node to one
abbrev pub IsLastEnd : Nodes → Summary → ℕ → Type 0
IsLastEnd nodes row i = (pair : Pair) × IsJoined nodes row pair × (pair.to ≡ i)

-- a test tells a summary that begins at a variable
abbrev pub SomeFrom : List Summary → ℕ → (Summary → Type 0) → Type 0
SomeFrom rows from Is = (n : ℕ) × (row : Summary) × (slice_get rows n ≡ Some row) × (row.from ≡ from) × Is row

-- those that a test tells are marked now too, and no others
pub record Marks (Is : ℕ → Type 0) (old new : List Bool) : Type 0 where
  pub size : length new ≡ length old
  pub kept : (i : ℕ) → IsMarked old i → IsMarked new i
  pub done : (i : ℕ) → Is i → IsMarked new i
  pub only : (i : ℕ) → IsMarked new i → IsMarked old i ⊎ Is i

-- ---- lists of numbers

-- the numbers of a list; none past all lists
abbrev pub items_at : List (Vec ℕ Global) → ℕ → List ℕ
items_at [] j = []
items_at (list ∷ lists) zero = list.items
items_at (list ∷ lists) (suc j) = items_at lists j

-- whether the number that may be there is this one
abbrev pub is_some_number : Option ℕ → ℕ → Bool
is_some_number None n = false
is_some_number (Some m) n = nat_eq m n

-- whether the last number of a list is this one
abbrev pub ends_with : List ℕ → ℕ → Bool
ends_with list n = is_some_number (slice_get list (length list - 1)) n

-- a list with a number at its end, where it did not end with that
abbrev pub with_last : List ℕ → ℕ → List ℕ
with_last list n = if ends_with list n then list else list ++ n ∷ []

-- a number is put into the lists that a test tells; the others stay
pub record Puts (Is : ℕ → Type 0) (number : ℕ) (old new : List (Vec ℕ Global)) : Type 0 where
  pub size : length new ≡ length old
  pub done : (j : ℕ) → j < length old → Is j → items_at new j ≡ with_last (items_at old j) number
  pub only : (j : ℕ) → (Is j × (items_at new j ≡ with_last (items_at old j) number)) ⊎ (items_at new j ≡ items_at old j)

-- a node is the other one, or a summary leads from it to the other
abbrev pub Reaches : Nodes → List Summary → ℕ → ℕ → Type 0
Reaches nodes rows i j = (i ≡ j) ⊎ HasPair rows (nodes.from + i) (nodes.from + j)

-- how many of the first nodes are marked
abbrev pub marked_before : List Bool → ℕ → ℕ
marked_before [] n = 0
marked_before (mark ∷ marks) zero = 0
marked_before (true ∷ marks) (suc n) = suc (marked_before marks n)
marked_before (false ∷ marks) (suc n) = marked_before marks n

-- a list has, ascending, the numbers of those of the first n nodes that reach a node, where these and it are marked
pub record IsIndexUpTo (nodes : Nodes) (rows : List Summary) (marks : List Bool) (n j : ℕ) (numbers : List ℕ) : Type 0
  where
    pub ascending : AreAscending numbers
    pub few : (m : ℕ) → Contains numbers m → m ≤ marked_before marks n
    pub are : (m : ℕ) → Contains numbers m ↔ ((i : ℕ) × (i < n) × IsMarked marks i × IsMarked marks j
        × (marked_up_to marks i ≡ m) × Reaches nodes rows i j)

-- each node has the list of the numbers of those of the first n nodes that reach it
pub record AreUpTo (nodes : Nodes) (rows : List Summary) (marks : List Bool) (n : ℕ) (lists : List (Vec ℕ Global)) :
    Type 0 where
  pub count : length lists ≡ length marks
  pub are : (j : ℕ) → j < length lists → IsIndexUpTo nodes rows marks n j (items_at lists j)
