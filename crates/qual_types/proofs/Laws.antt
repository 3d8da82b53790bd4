-- What is true of every table of variables.
use Rattle.std.proofs.Common.{◌≡◌, ℕ, zero, suc, ◌-◌, ◌<◌, List, [], ◌∷◌, length, slice_get, unwrap_or, Option, Some, refl, sym, ◌∙◌, ap, arith}
use Rattle.qual_base.specs.declared.places.Owner.TheVariants.{Nobody}
use Rattle.std.specs.Prelude.{MatchOption, option_and_then}
use Rattle.std.proofs.lemmas.Option.{same_Some}
use Rattle.qual_types.specs.declared.row.Node.{Node}
use Rattle.qual_types.specs.declared.row.Node.TheVariants as nodes
use Rattle.qual_types.specs.declared.row.Parent.{Parent}
use Rattle.qual_types.specs.declared.row.Parent.TheVariants.{OfNobody, OfFunction, Inside, Param, Result, Ellipsis}
use Rattle.qual_types.specs.declared.row.VarRow.{VarRow}
use Rattle.qual_types.specs.Skel.{Skel, Skels, more_skels, root, param_at, follow}
use Rattle.qual_types.specs.Rows.{Seen, tree_seen, seen_in, skel_of, above, owner_set, mark_set}
use Rattle.qual_types.specs.Table.{IsHeld, RowStands, AreMarkedApart, HaveOwnPositions, IsTop, IsPart, IsPlaced, owner_of, mark_of}
use Rattle.qual_types.proofs.Seeing.{row_stands}

-- the root of what is seen at a row is the row's number
root_seen : (look : ℕ → Seen) (n : ℕ) (node : Node) → root (tree_seen look n node) ≡ n
root_seen look n nodes.Base = refl
root_seen look n nodes.Void = refl
root_seen look n (nodes.Struct s) = refl
root_seen look n nodes.Ref = refl
root_seen look n (nodes.Fun r) = refl
root_seen look n nodes.Ellipsis = refl

pub row_root : (rows : List VarRow) (n : ℕ) (row : VarRow) → RowStands rows n row → root (skel_of rows n) ≡ n
row_root rows n row h = ap (λ (s : Seen). root s.tree) h.seen ∙ root_seen (seen_in rows) n row.node

-- a number of the list has an item
record IsThere (rows : List VarRow) (n : ℕ) : Type 0 where
  row : VarRow
  there : slice_get rows n ≡ Some row

-- each number below the length of a table has a row
is_there : (rows : List VarRow) (n : ℕ) → n < length rows → IsThere rows n
is_there [] n lt = absurd (omega (arith, lt))
is_there (row ∷ rows) zero lt = record { row = row; there = refl }
is_there (row ∷ rows) (suc n) lt =
    let r = is_there rows n (omega (arith, lt)) in
    record { row = r.row; there = r.there }

pub own_root : (rows : List VarRow) → IsHeld rows → (n : ℕ) → n < length rows → root (skel_of rows n) ≡ n
own_root rows held n lt = let r = is_there rows n lt in row_root rows n r.row (row_stands rows n r.row held r.there)

-- where no two skeletons have one unit and token, no two variables have one position
pub own_positions : (rows : List VarRow) → AreMarkedApart rows → HaveOwnPositions rows
own_positions rows apart = λ at v w one two.
    let same : one.top ≡ two.top = apart one.top two.top (at.unit, at.token) one.mark two.mark in
    same_Some v w (sym one.path ∙ (ap (λ n. follow at.path (skel_of rows n)) same ∙ two.path))

pub param_behind : (p : Skel) (ps : Skels) (n : ℕ) → 0 < n → param_at (more_skels p ps) n ≡ param_at ps (n - 1)
param_behind p ps zero lt = absurd (omega (arith, lt))
param_behind p ps (suc n) lt = let e : suc n - 1 ≡ n = omega arith in rw e refl

-- the constructor around a part, by its parent
by_parent : (rows : List VarRow) (n : ℕ) (parent : Parent) → n < length rows → mark_of rows n ≡ mark_set parent
    → IsPlaced (skel_of rows) (owner_of rows) n (above parent)
    → MatchOption (above parent) (n < length rows → IsTop rows n)
    (λ x. IsPart (skel_of rows) (owner_of rows) n x.0 x.1 × (n < length rows))
by_parent rows n (OfNobody unit token) lt mark part = λ below. ((unit, token), mark)
by_parent rows n (OfFunction unit token f) lt mark part = λ below. ((unit, token), mark)
by_parent rows n (Inside of) lt mark part = (part, lt)
by_parent rows n (Param of i next) lt mark part = (part, lt)
by_parent rows n (Result of e) lt mark part = (part, lt)
by_parent rows n (Ellipsis of) lt mark part = (part, lt)

-- the row above a row, if there is one, has it as its part, and else it is a top
pub above_stands : (rows : List VarRow) (n : ℕ) (row : VarRow) → RowStands rows n row
    → MatchOption (above row.parent) (n < length rows → IsTop rows n)
    (λ x. IsPart (skel_of rows) (owner_of rows) n x.0 x.1 × (n < length rows))
above_stands rows n row h =
    by_parent rows n row.parent h.below
    (ap (λ (r : Option VarRow). option_and_then (λ (row : VarRow). mark_set row.parent) r) h.there) h.placed

-- the owner of a skeleton's root is the one that its parent names
set_where_marked : (parent : Parent) (mark : ℕ × ℕ) → mark_set parent ≡ Some mark
    → owner_set parent ≡ Some (unwrap_or (owner_set parent) Nobody)
set_where_marked (OfNobody unit token) mark e = refl
set_where_marked (OfFunction unit token f) mark e = refl
set_where_marked (Inside of) mark e = absurd cc
set_where_marked (Param of i next) mark e = absurd cc
set_where_marked (Result of x) mark e = absurd cc
set_where_marked (Ellipsis of) mark e = absurd cc

-- a root's owner is the one that its parent sets
pub top_owner : (rows : List VarRow) (n : ℕ) (row : VarRow) → RowStands rows n row → IsTop rows n
    → unwrap_or (owner_set row.parent) Nobody ≡ owner_of rows n
top_owner rows n row h top =
    let mark : mark_of rows n ≡ mark_set row.parent =
    ap (λ (r : Option VarRow). option_and_then (λ (row : VarRow). mark_set row.parent) r) h.there in
    sym (h.owned (unwrap_or (owner_set row.parent) Nobody) (set_where_marked row.parent top.0 (sym mark ∙ top.1)))
