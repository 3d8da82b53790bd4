-- What is true of every table of variables.
use Rattle.std.specs.Prelude.{◌≡◌, ℕ, ◌+◌, ◌<◌, ◌≤◌, ◌^◌, List, [], ◌∷◌, length, slice_get, unwrap_or, Option, Some, None, option_and_then, replicate, ◌++◌}
use Rattle.qual_base.specs.declared.places.Owner.{Owner}
use Rattle.qual_base.specs.declared.places.Owner.TheVariants.{Nobody}
use Rattle.type_table.specs.Types.{CType, size}
use Rattle.qual_types.specs.declared.look.Look.{Look}
use Rattle.qual_types.specs.declared.look.Look.TheVariants as looks
use Rattle.qual_types.specs.declared.position.Step.{Step}
use Rattle.qual_types.specs.declared.row.Node.{Node}
use Rattle.qual_types.specs.declared.row.Node.TheVariants as nodes
use Rattle.qual_types.specs.declared.row.Parent.{Parent}
use Rattle.qual_types.specs.declared.row.Parent.TheVariants.{OfNobody, OfFunction, Inside, Param, Result, Ellipsis}
use Rattle.qual_types.specs.declared.row.VarRow.{VarRow}
use Rattle.qual_types.specs.Positions.{PositionView}
use Rattle.qual_types.specs.Skel.{Skel, flat, ref, fun, Skels, no_skels, more_skels, follow, numbered}
use Rattle.qual_types.specs.Rows.{above, owner_set, mark_set, owners_of, nothing, shown, seen_in, skel_of, params_from}

-- a variable past the table belongs to nobody
abbrev pub owner_of : List VarRow → ℕ → Owner
owner_of rows v = unwrap_or (slice_get (owners_of rows) v) Nobody

-- the unit and the token of a skeleton, by the number of its root
abbrev pub mark_of : List VarRow → ℕ → Option (ℕ × ℕ)
mark_of rows n = option_and_then (λ (row : VarRow). mark_set row.parent) (slice_get rows n)

-- a number that a variable may have
abbrev pub IsVar : ℕ → Type 0
IsVar v = v < 2 ^ 24

-- a number that a variable may have, where there is one
abbrev pub IsSomeVar : Option ℕ → Type 0
IsSomeVar None = Unit {0}
IsSomeVar (Some v) = IsVar v

-- a link leads to a higher number, below the number of variables
abbrev pub IsLink : ℕ → ℕ → ℕ → Type 0
IsLink count n m = (n < m) × (m < count)

-- the variable of further arguments, where there is one, is one of the table
abbrev pub IsEllipsisLink : ℕ → Option ℕ → Type 0
IsEllipsisLink count None = Unit {0}
IsEllipsisLink count (Some v) = v < count

-- the parts of the constructor at a number stand behind it in the table
abbrev pub IsNodeLinked : ℕ → ℕ → Node → Type 0
IsNodeLinked count n nodes.Base = Unit {0}
IsNodeLinked count n nodes.Void = Unit {0}
IsNodeLinked count n (nodes.Struct s) = Unit {0}
IsNodeLinked count n nodes.Ref = n + 1 < count
IsNodeLinked count n (nodes.Fun r) = IsLink count n r
IsNodeLinked count n nodes.Ellipsis = Unit {0}

-- what the parent of a row names, the next parameter or the further arguments, is in the table
abbrev pub IsParentLinked : ℕ → ℕ → Parent → Type 0
IsParentLinked count n (OfNobody unit token) = Unit {0}
IsParentLinked count n (OfFunction unit token f) = Unit {0}
IsParentLinked count n (Inside of) = Unit {0}
IsParentLinked count n (Param of i next) = IsLink count n next
IsParentLinked count n (Result of e) = IsEllipsisLink count e
IsParentLinked count n (Ellipsis of) = Unit {0}

-- what these rows name, which are numbered from n on, is in the table
abbrev pub AreLinked : ℕ → ℕ → List VarRow → Type 0
AreLinked count n [] = Unit {0}
AreLinked count n (row ∷ rows) =
    IsNodeLinked count n row.node × IsParentLinked count n row.parent × AreLinked count (n + 1) rows

-- a part has its owner and its paths from the constructor around it
pub record IsPart (look : ℕ → Skel) (own : ℕ → Owner) (n : ℕ) (of : ℕ) (step : Step) : Type 0 where
  pub lower : of < n
  pub same_owner : own of ≡ own n
  pub leads : (p : List Step) → follow (step ∷ p) (look of) ≡ follow p (look n)

-- a row has its owner and its paths from the constructor around it, where there is one
abbrev pub IsPlaced : (ℕ → Skel) → (ℕ → Owner) → ℕ → Option (ℕ × Step) → Type 0
IsPlaced look own n None = Unit {0}
IsPlaced look own n (Some x) = IsPart look own n x.0 x.1

-- these rows, which are numbered from n on, have their owners and paths from the constructors around them
abbrev pub ArePlaced : (ℕ → Skel) → (ℕ → Owner) → ℕ → List VarRow → Type 0
ArePlaced look own n [] = Unit {0}
ArePlaced look own n (row ∷ rows) = IsPlaced look own n (above row.parent) × ArePlaced look own (n + 1) rows

-- what holds of each table of variables
pub record IsHeld (rows : List VarRow) : Type 0 where
  pub few : length rows ≤ 2 ^ 24
  pub linked : AreLinked (length rows) 0 rows
  pub placed : ArePlaced (skel_of rows) (owner_of rows) 0 rows

-- what is known of a number past the table
abbrev pub IsPast : List VarRow → ℕ → Type 0
IsPast rows n = (length rows ≤ n) × (seen_in rows n ≡ nothing) × (owner_of rows n ≡ Nobody)

-- a row of the table at its number, with what is known of it
pub record RowStands (rows : List VarRow) (n : ℕ) (row : VarRow) : Type 0 where
  pub below : n < length rows
  pub few : length rows ≤ 2 ^ 24
  pub there : slice_get rows n ≡ Some row
  pub seen : seen_in rows n ≡ shown (seen_in rows) n row
  pub node : IsNodeLinked (length rows) n row.node
  pub parent : IsParentLinked (length rows) n row.parent
  pub placed : IsPlaced (skel_of rows) (owner_of rows) n (above row.parent)
  pub owned : (owner : Owner) → owner_set row.parent ≡ Some owner → owner_of rows n ≡ owner

-- a number is that of a skeleton's root
abbrev pub IsTop : List VarRow → ℕ → Type 0
IsTop rows n = (mark : ℕ × ℕ) × (mark_of rows n ≡ Some mark)

-- the skeleton that a look at a constructor shows
abbrev pub looked : List VarRow → Look → Skel
looked rows (looks.Flat v k) = flat v k
looked rows (looks.Ref v s) = ref v (skel_of rows s)
looked rows (looks.Fun v first r e) = fun v (params_from rows first) (skel_of rows r) e

-- the numbers in a look at a constructor are right: its variable may be one, and its parts stand behind it in the table
abbrev pub IsLook : ℕ → ℕ → Look → Type 0
IsLook count n (looks.Flat v k) = IsVar v
IsLook count n (looks.Ref v s) = IsVar v × IsLink count n s
IsLook count n (looks.Fun v first r e) = IsVar v × IsLink count n first × IsLink count n r × IsSomeVar e

-- the parameters from a number on, by the number of the part behind it
abbrev pub part_seen : List VarRow → ℕ → Option ℕ → Skels
part_seen rows n None = no_skels
part_seen rows n (Some next) = more_skels (skel_of rows n) (params_from rows next)

-- the part behind a parameter, where there is one, stands behind it in the table
abbrev pub IsPartLink : ℕ → ℕ → Option ℕ → Type 0
IsPartLink count n None = Unit {0}
IsPartLink count n (Some next) = IsLink count n next

-- what was there stays: skeletons, owners, units and tokens
pub record Keeps (old new : List VarRow) : Type 0 where
  pub skels : (n : ℕ) → n < length old → skel_of new n ≡ skel_of old n
  pub owners : (v : ℕ) → v < length old → owner_of new v ≡ owner_of old v
  pub marks : (n : ℕ) → n < length old → mark_of new n ≡ mark_of old n

-- the table with a skeleton of a type behind it
pub record Grown (old new : List VarRow) (t : CType) (owner : Owner) (named : ℕ × ℕ) : Type 0 where
  pub held : IsHeld new
  pub skel : skel_of new (length old) ≡ numbered t (length old)
  pub mark : mark_of new (length old) ≡ Some named
  pub inner : (n : ℕ) → length old < n → mark_of new n ≡ None
  pub count : length new ≡ length old + size t
  pub owners : owners_of new ≡ owners_of old ++ replicate (size t) owner
  pub kept : Keeps old new

-- A position of a variable: a skeleton has its unit and token, and the path leads from there to the variable.
pub record Stands (rows : List VarRow) (at : PositionView) (v : ℕ) : Type 0 where
  pub top : ℕ
  pub mark : mark_of rows top ≡ Some (at.unit, at.token)
  pub path : follow at.path (skel_of rows top) ≡ Some v

-- no two skeletons have one unit and token
abbrev pub AreMarkedApart : List VarRow → Type 0
AreMarkedApart rows = (n m : ℕ) (mark : ℕ × ℕ) → mark_of rows n ≡ Some mark → mark_of rows m ≡ Some mark → n ≡ m

-- no two variables have one position
abbrev pub HaveOwnPositions : List VarRow → Type 0
HaveOwnPositions rows = (at : PositionView) (v w : ℕ) → Stands rows at v → Stands rows at w → v ≡ w
