-- The rows of a table of variables, and the skeletons that they show.
use Rattle.std.specs.Prelude.{ℕ, ◌+◌, ◌-◌, List, [], ◌∷◌, ◌++◌, slice_get, unwrap_or, Option, Some, None}
use Rattle.qual_base.specs.declared.places.Owner.{Owner}
use Rattle.qual_base.specs.declared.places.Owner.TheVariants.{Nobody, Function}
use Rattle.type_table.specs.Types.{Words, CType, base, void, struct, pointer, function, CTypes, no_types, more_types, size, sizes}
use Rattle.qual_types.specs.declared.look.Kind.TheVariants as kinds
use Rattle.qual_types.specs.declared.position.Step.{Step}
use Rattle.qual_types.specs.declared.position.Step.TheVariants as steps
use Rattle.qual_types.specs.declared.row.Node.{Node}
use Rattle.qual_types.specs.declared.row.Node.TheVariants as nodes
use Rattle.qual_types.specs.declared.row.Parent.{Parent}
use Rattle.qual_types.specs.declared.row.Parent.TheVariants.{OfNobody, OfFunction, Inside, Param, Result, Ellipsis}
use Rattle.qual_types.specs.declared.row.VarRow.{VarRow}
use Rattle.qual_types.specs.Skel.{Skel, flat, ref, fun, Skels, no_skels, more_skels, no_skeleton, numbered_ellipsis}

-- the constructor around a part, and the step from there
abbrev pub above : Parent → Option (ℕ × Step)
above (OfNobody unit token) = None
above (OfFunction unit token f) = None
above (Inside of) = Some (of, steps.Inside)
above (Param of i next) = Some (of, steps.Param i)
above (Result of e) = Some (of, steps.Result)
above (Ellipsis of) = Some (of, steps.Ellipsis)

-- the owner that a skeleton's root has
abbrev pub owner_set : Parent → Option Owner
owner_set (OfNobody unit token) = Some Nobody
owner_set (OfFunction unit token f) = Some (Function f)
owner_set (Inside of) = None
owner_set (Param of i next) = None
owner_set (Result of e) = None
owner_set (Ellipsis of) = None

-- the unit and the token that a skeleton's root has
abbrev pub mark_set : Parent → Option (ℕ × ℕ)
mark_set (OfNobody unit token) = Some (unit, token)
mark_set (OfFunction unit token f) = Some (unit, token)
mark_set (Inside of) = None
mark_set (Param of i next) = None
mark_set (Result of e) = None
mark_set (Ellipsis of) = None

-- The owner of each variable: that of the skeleton's root that stands last at or before it.
abbrev pub owners_from : Owner → List VarRow → List Owner
owners_from last [] = []
owners_from last (row ∷ rows) = let owner = unwrap_or (owner_set row.parent) last in owner ∷ owners_from owner rows

-- the owner of each variable of a table
abbrev pub owners_of : List VarRow → List Owner
owners_of rows = owners_from Nobody rows

-- What is seen at a number: a skeleton, the parameters of a function from there on, and the variable of a function's
-- further arguments at its result.
pub record Seen : Type 0 where
  pub tree : Skel
  pub params : Skels
  pub ellipsis : Option ℕ

-- past the table there is no skeleton
abbrev pub nothing : Seen
nothing = record { tree = no_skeleton; params = no_skels; ellipsis = None }

-- what is seen at a number, by what is seen at all numbers of a table
abbrev pub seen_at : List Seen → ℕ → Seen
seen_at all n = unwrap_or (slice_get all n) nothing

-- the skeleton at a row, by what is seen at the numbers behind it
abbrev pub tree_seen : (ℕ → Seen) → ℕ → Node → Skel
tree_seen look n nodes.Base = flat n kinds.Base
tree_seen look n nodes.Void = flat n kinds.Void
tree_seen look n (nodes.Struct s) = flat n (kinds.Struct s)
tree_seen look n nodes.Ref = ref n (look (n + 1)).tree
tree_seen look n (nodes.Fun r) = fun n (look (n + 1)).params (look r).tree (look r).ellipsis
tree_seen look n nodes.Ellipsis = flat n kinds.Base

-- the parameters from a row on, where it is a parameter and this is its skeleton
abbrev pub params_seen : (ℕ → Seen) → Skel → Parent → Skels
params_seen look tree (OfNobody unit token) = no_skels
params_seen look tree (OfFunction unit token f) = no_skels
params_seen look tree (Inside of) = no_skels
params_seen look tree (Param of i next) = more_skels tree (look next).params
params_seen look tree (Result of e) = no_skels
params_seen look tree (Ellipsis of) = no_skels

-- the variable of further arguments that a row has, where it is a result
abbrev pub ellipsis_seen : Parent → Option ℕ
ellipsis_seen (OfNobody unit token) = None
ellipsis_seen (OfFunction unit token f) = None
ellipsis_seen (Inside of) = None
ellipsis_seen (Param of i next) = None
ellipsis_seen (Result of e) = e
ellipsis_seen (Ellipsis of) = None

-- the part behind a parameter
abbrev pub next_seen : Parent → Option ℕ
next_seen (OfNobody unit token) = None
next_seen (OfFunction unit token f) = None
next_seen (Inside of) = None
next_seen (Param of i next) = Some next
next_seen (Result of e) = None
next_seen (Ellipsis of) = None

-- what is seen at a row, by what is seen at the numbers behind it
abbrev pub shown : (ℕ → Seen) → ℕ → VarRow → Seen
shown look n row = record {
  tree = tree_seen look n row.node;
  params = params_seen look (tree_seen look n row.node) row.parent;
  ellipsis = ellipsis_seen row.parent;
}

-- a row names higher ones alone, and shows what these show
abbrev pub all_seen : ℕ → List VarRow → List Seen
all_seen n [] = []
all_seen n (row ∷ rows) = let later = all_seen (n + 1) rows in shown (λ m. seen_at later (m - (n + 1))) n row ∷ later

-- what is seen at a number of a table
abbrev pub seen_in : List VarRow → ℕ → Seen
seen_in rows n = seen_at (all_seen 0 rows) n

-- the skeleton at a number of a table
abbrev pub skel_of : List VarRow → ℕ → Skel
skel_of rows n = (seen_in rows n).tree

-- the parameters of a function from a number of a table on
abbrev pub params_from : List VarRow → ℕ → Skels
params_from rows n = (seen_in rows n).params

-- the rows of a skeleton of a type: from number n on, its outermost constructor under this parent
abbrev pub ellipsis_rows : ℕ → Option Words → List VarRow
ellipsis_rows n None = []
ellipsis_rows n (Some ws) = record { node = nodes.Ellipsis; parent = Ellipsis n } ∷ []

abbrev mutual
  -- the rows of a type whose root has this number and parent
  pub rows_of : CType → ℕ → Parent → List VarRow
  rows_of (base ws) n parent = record { node = nodes.Base; parent = parent } ∷ []
  rows_of (void ws) n parent = record { node = nodes.Void; parent = parent } ∷ []
  rows_of (struct ws s) n parent = record { node = nodes.Struct s; parent = parent } ∷ []
  rows_of (pointer ws t) n parent = record { node = nodes.Ref; parent = parent } ∷ rows_of t (n + 1) (Inside n)
  rows_of (function ws ps r e) n parent = let back = n + 1 + sizes ps in
      record { node = nodes.Fun back; parent = parent }
      ∷ (param_rows n 0 ps (n + 1)
      ++ (rows_of r back (Result n (numbered_ellipsis e (back + size r))) ++ ellipsis_rows n e))

  -- the rows of parameters, from this index and number on
  pub param_rows : ℕ → ℕ → CTypes → ℕ → List VarRow
  param_rows of i no_types n = []
  param_rows of i (more_types t ts) n = rows_of t n (Param of i (n + size t)) ++ param_rows of (i + 1) ts (n + size t)
