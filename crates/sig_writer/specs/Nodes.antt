-- The nodes of external functions, as the code holds them.
use Rattle.std.specs.Prelude.{◌≡◌, ℕ, zero, suc, ◌-◌, ◌^◌, ◌<◌, ◌≤◌, List, [], ◌∷◌, length, Option, None, Some}
use Rattle.std.specs.List.{flat_map}
use Rattle.qual_types.specs.Skel.{Skel, flat, ref, fun, nodes, root, no_skeleton}
use Rattle.qual_types.specs.declared.row.VarRow.{VarRow}
use Rattle.qual_types.specs.Rows.{skel_of}
use Rattle.name_rules.specs.Spellings.{Place}
use Rattle.name_tables.specs.PlaceMap.Values.{number_at}
use Rattle.row_rules.specs.Worlds.{Numbered, skeleton_among}
use Rattle.unit_starts.specs.declared.unit_skeletons.skeletons.Skeletons.{Skeletons}
use Rattle.unit_starts.specs.UnitSkeletons.Found.{number_or_none}
use Rattle.sig_writer.specs.declared.nodes.Nodes.{Nodes}
use Rattle.sig_writer.specs.declared.nodes.Last.{Last}
use Rattle.sig_writer.specs.declared.nodes.Last.TheVariants.{Var, Part}

-- so many numbers from one on
abbrev pub numbers : ℕ → ℕ → List ℕ
numbers zero from = []
numbers (suc count) from = from ∷ numbers count (suc from)

-- the variables from the first of the nodes to the last
abbrev pub numbers_in : Nodes → List ℕ
numbers_in it = numbers (it.to - it.from) it.from

-- the first and the last variable tell all nodes
pub record AreNodes (vars : List ℕ) (it : Nodes) : Type 0 where
  pub order : it.from ≤ it.to
  pub are : numbers_in it ≡ vars

-- the skeleton that begins at a place, and its variables
abbrev pub skel_by : Skeletons → Option ℕ → Skel
skel_by it None = no_skeleton
skel_by it (Some n) = skel_of it.vars n

-- the variables of the skeleton that begins at a place
abbrev pub nodes_in : Skeletons → Place → List ℕ
nodes_in it p = nodes (skel_by it (number_at it.starts p))

-- the variables of the skeletons that begin at these places
abbrev pub all_nodes_in : Skeletons → List Place → List ℕ
all_nodes_in it functions = flat_map (nodes_in it) functions

-- the number of the skeleton that begins at a place; a number past all where none does
abbrev pub root_in : Skeletons → Place → ℕ
root_in it p = number_or_none (number_at it.starts p)

-- ---- what has to be true of skeletons before their nodes are told by the first and the last of them

-- the variables of a skeleton are numbered one after the other, in pre-order
abbrev pub IsInOrder : Skel → Type 0
IsInOrder s = nodes s ≡ numbers (length (nodes s)) (root s)

-- those of each skeleton that begins at a place are
abbrev pub AreInOrder : Skeletons → Type 0
AreInOrder it = (p : Place) → IsInOrder (skel_by it (number_at it.starts p))

-- they are where each is that of a type, the first that begins at its place among skeletons one behind the other
abbrev pub SkeletonsAreInOrder : Type 0
SkeletonsAreInOrder =
    (it : Skeletons) (all : List Numbered) → ((p : Place) → skel_of it.vars (root_in it p) ≡ skeleton_among all p)
    → AreInOrder it

-- ---- the last variable of a skeleton, in pre-order

-- the variable that comes last in a skeleton
abbrev pub last_of : Skel → ℕ
last_of (flat v k) = v
last_of (ref v s) = last_of s
last_of (fun v ps r None) = last_of r
last_of (fun v ps r (Some e)) = e

-- that of what stands last in one
abbrev pub last_in : List VarRow → Last → ℕ
last_in rows (Var v) = v
last_in rows (Part n) = last_of (skel_of rows n)

-- a part is of the table, and has a higher number
abbrev pub IsHigher : ℕ → ℕ → Last → Type 0
IsHigher count n (Var v) = v < 2 ^ 24
IsHigher count n (Part m) = (n < m) × (m < count)
