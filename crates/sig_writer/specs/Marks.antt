-- Index words as the code makes them: what is read of matched paths between nodes.
use Rattle.std.specs.Prelude.{◌≡◌, ℕ, zero, suc, ◌+◌, ◌<◌, ◌-◌, Bool, true, false, ◌⊎◌, ◌↔◌, List, [], ◌∷◌, length, slice_get, Some}
use Rattle.std.specs.List.{Contains}
use Rattle.match_summary.specs.declared.reason.Summary.{Summary}
use Rattle.match_summary.specs.Summary.{HasPair}
use Rattle.sig_writer.specs.declared.nodes.Nodes.{Nodes}
use Rattle.sig_writer.specs.declared.marks.Pair.{Pair}
use Rattle.std.specs.declared.alloc.Global.{Global}
use Rattle.std.specs.declared.vec.Vec.{Vec}
use Rattle.index_words.specs.Marks.{AreAscending}

-- a summary leads from one node to another one, which have these numbers among the nodes
abbrev pub IsJoined : Nodes → Summary → Pair → Type 0
IsJoined nodes row pair =
    (nodes.from + pair.from ≡ row.from) × (row.from < nodes.to)
    × (nodes.from + pair.to ≡ row.to) × (row.to < nodes.to) × (pair.from ≡ pair.to → ⊥)

-- a summary does not lead from one of the nodes to another one
abbrev pub JoinsNone : Nodes → Summary → Type 0
JoinsNone nodes row = (pair : Pair) → IsJoined nodes row pair → ⊥

-- the nodes of two numbers are two, and a summary leads from one to the other
abbrev pub Joins : Nodes → List Summary → ℕ → ℕ → Type 0
Joins nodes rows i j = HasPair rows (nodes.from + i) (nodes.from + j) × (i ≡ j → ⊥)

-- for each node whether summaries join it with another one
pub record AreMarks (nodes : Nodes) (rows : List Summary) (marks : List Bool) : Type 0 where
  pub count : length marks ≡ nodes.to - nodes.from
  pub marked : (i : ℕ) → i < length marks →
      (slice_get marks i ≡ Some true) ↔ ((j : ℕ) × (j < length marks) × (Joins nodes rows i j ⊎ Joins nodes rows j i))

-- the number of a node among the marked ones, from 1: how many are marked up to it
abbrev pub marked_up_to : List Bool → ℕ → ℕ
marked_up_to [] i = 0
marked_up_to (true ∷ marks) zero = 1
marked_up_to (true ∷ marks) (suc i) = suc (marked_up_to marks i)
marked_up_to (false ∷ marks) zero = 0
marked_up_to (false ∷ marks) (suc i) = marked_up_to marks i

-- a list has, ascending, the numbers of the marked nodes that are this one or from which a summary leads to it; none
-- where it is not marked
pub record IsIndexOf (nodes : Nodes) (rows : List Summary) (marks : List Bool) (j : ℕ) (numbers : List ℕ) : Type 0 where
  pub ascending : AreAscending numbers
  pub are : (n : ℕ) → Contains numbers n ↔ ((i : ℕ) × (slice_get marks i ≡ Some true) × (slice_get marks j ≡ Some true)
      × (marked_up_to marks i ≡ n) × ((i ≡ j) ⊎ HasPair rows (nodes.from + i) (nodes.from + j)))

-- each node has the list of numbers that its index word has
pub record AreIndicesOf (nodes : Nodes) (rows : List Summary) (lists : List (Vec ℕ Global)) : Type 0 where
  pub marks : List Bool
  pub are_marks : AreMarks nodes rows marks
  pub count : length lists ≡ length marks
  pub are : (j : ℕ) (list : Vec ℕ Global) → slice_get lists j ≡ Some list → IsIndexOf nodes rows marks j list.items
