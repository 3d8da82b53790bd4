-- A table with the rows of a skeleton behind it is again a table.
use Rattle.std.proofs.Common.{◌≡◌, ℕ, zero, suc, ◌+◌, ◌-◌, ◌<◌, ◌≤◌, ◌^◌, List, [], ◌∷◌, ◌++◌, length, slice_get, Option, Some, None, refl, sym, ◌∙◌, ap, arith, subst, length-append, unwrap_or}
use Rattle.std.specs.Prelude.{replicate}
use Rattle.qual_base.specs.declared.places.Owner.{Owner}
use Rattle.qual_base.specs.declared.places.Owner.TheVariants.{Nobody}
use Rattle.type_table.specs.Types.{Words, CType, base, void, struct, pointer, function, CTypes, no_types, more_types, size, sizes}
use Rattle.qual_types.specs.declared.position.Step.{Step}
use Rattle.qual_types.specs.declared.row.Node.{Node}
use Rattle.qual_types.specs.declared.row.Node.TheVariants as nodes
use Rattle.qual_types.specs.declared.row.Parent.{Parent}
use Rattle.qual_types.specs.declared.row.Parent.TheVariants.{OfNobody, OfFunction, Inside, Param, Result, Ellipsis}
use Rattle.qual_types.specs.declared.row.VarRow.{VarRow}
use Rattle.qual_types.specs.Skel.{Skel, numbered, numbered_ellipsis, follow}
use Rattle.qual_types.specs.Rows.{Seen, seen_in, skel_of, above, owner_set, mark_set, owners_from, owners_of, rows_of, param_rows, ellipsis_rows}
use Rattle.qual_types.specs.Table.{IsNodeLinked, IsParentLinked, IsEllipsisLink, AreLinked, IsPlaced, ArePlaced, IsHeld, owner_of, mark_of, Grown}
use Rattle.qual_types.proofs.Seeing.{kept, seen_is, owners_length}
use Rattle.qual_types.proofs.Reading.{rows_length, AreShown, read, linked, linked_append, placed, placed_append}

-- a place within the first of two joined lists has what it has there
get_front : {A : Type 0} (xs ys : List A) (n : ℕ) → n < length xs → slice_get (xs ++ ys) n ≡ slice_get xs n
get_front [] ys n lt = absurd (omega (arith, lt))
get_front (x ∷ xs) ys zero lt = refl
get_front (x ∷ xs) ys (suc n) lt = get_front xs ys n (omega (arith, lt))

-- a place behind the first of two joined lists has what the second has, so much earlier
get_behind : {A : Type 0} (xs ys : List A) (n i : ℕ) → n ≡ length xs + i → slice_get (xs ++ ys) n ≡ slice_get ys i
get_behind [] ys n i e = let same : n ≡ i = omega (arith, e) in rw same refl
get_behind (x ∷ xs) ys zero i e = absurd (omega (arith, e))
get_behind (x ∷ xs) ys (suc n) i e = get_behind xs ys n i (omega (arith, e))

-- each place of a repeated owner has that owner
get_replicate : (n i : ℕ) (o : Owner) → i < n → slice_get (replicate n o) i ≡ Some o
get_replicate zero i o lt = absurd (omega (arith, lt))
get_replicate (suc n) zero o lt = refl
get_replicate (suc n) (suc i) o lt = get_replicate n i o (omega (arith, lt))

-- rows that stand in a table from a number on are shown by what is seen there
are_shown : (count : ℕ) (all : List VarRow) (k : ℕ) (rows : List VarRow) → AreLinked count 0 all
    → ((i : ℕ) (row : VarRow) → slice_get rows i ≡ Some row → slice_get all (k + i) ≡ Some row)
    → AreShown (seen_in all) k rows
are_shown count all k [] low there = tt
are_shown count all k (row ∷ rows) low there =
    let at : k + 0 ≡ k = omega arith in (
      seen_is count all k row low (subst (λ j. slice_get all j ≡ Some row) at (there 0 row refl)),
      are_shown count all (k + 1) rows low (λ i r e. let next : (k + 1) + i ≡ k + suc i = omega arith in
          rw next (there (suc i) r e)),
    )

-- the parts of a node are in a larger table where they are in a smaller one
node_more : (low count n : ℕ) (node : Node) → low ≤ count → IsNodeLinked low n node → IsNodeLinked count n node
node_more low count n nodes.Base le h = tt
node_more low count n nodes.Void le h = tt
node_more low count n (nodes.Struct s) le h = tt
node_more low count n nodes.Ref le h = omega (arith, le, h)
node_more low count n (nodes.Fun r) le h = (h.0, let l = h.1 in omega (arith, le, l))
node_more low count n nodes.Ellipsis le h = tt

ellipsis_more : (low count : ℕ) (e : Option ℕ) → low ≤ count → IsEllipsisLink low e → IsEllipsisLink count e
ellipsis_more low count None le h = tt
ellipsis_more low count (Some v) le h = omega (arith, le, h)

-- what a parent names is in a larger table where it is in a smaller one
parent_more : (low count n : ℕ) (parent : Parent) → low ≤ count → IsParentLinked low n parent
    → IsParentLinked count n parent
parent_more low count n (OfNobody unit token) le h = tt
parent_more low count n (OfFunction unit token f) le h = tt
parent_more low count n (Inside of) le h = tt
parent_more low count n (Param of i next) le h = (h.0, let l = h.1 in omega (arith, le, l))
parent_more low count n (Result of e) le h = ellipsis_more low count e le h
parent_more low count n (Ellipsis of) le h = tt

-- rows that are linked below a count are linked below a greater one
linked_more : (low count n : ℕ) (rows : List VarRow) → low ≤ count → AreLinked low n rows → AreLinked count n rows
linked_more low count n [] le h = tt
linked_more low count n (row ∷ rows) le h = (
  node_more low count n row.node le h.0,
  parent_more low count n row.parent le h.1,
  linked_more low count (n + 1) rows le h.2,
)

-- a part of a row below a number is one where skeletons and owners below it are the same
part_same : (look more : ℕ → Skel) (own mine : ℕ → Owner) (top n : ℕ) (x : Option (ℕ × Step)) → n < top
    → ((j : ℕ) → j < top → more j ≡ look j) → ((j : ℕ) → j < top → mine j ≡ own j)
    → IsPlaced look own n x → IsPlaced more mine n x
part_same look more own mine top n None lt same owned h = tt
part_same look more own mine top n (Some x) lt same owned h =
    let l = h.lower in
    let of_is = owned x.0 (omega (arith, lt, l)) in
    let n_is = owned n lt in
    record {
      lower = l;
      same_owner = of_is ∙ h.same_owner ∙ sym n_is;
      leads = λ p. ap (follow (x.1 ∷ p)) (same x.0 (omega (arith, lt, l))) ∙ h.leads p
          ∙ sym (ap (follow p) (same n lt));
    }

-- rows below a number are placed alike where skeletons and owners below it are the same
placed_same : (look more : ℕ → Skel) (own mine : ℕ → Owner) (top n : ℕ) (rows : List VarRow) → n + length rows ≤ top
    → ((j : ℕ) → j < top → more j ≡ look j)
    → ((j : ℕ) → j < top → mine j ≡ own j) → ArePlaced look own n rows → ArePlaced more mine n rows
placed_same look more own mine top n [] le same owned h = tt
placed_same look more own mine top n (row ∷ rows) le same owned h = (
  part_same look more own mine top n (above row.parent) (omega (arith, le)) same owned h.0,
  placed_same look more own mine top (n + 1) rows (omega (arith, le)) same owned h.1,
)

-- parts have no owner of their own
abbrev AreInner : List VarRow → Type 0
AreInner [] = Unit {0}
AreInner (row ∷ rows) = (owner_set row.parent ≡ None) × AreInner rows

inner_append : (xs ys : List VarRow) → AreInner xs → AreInner ys → AreInner (xs ++ ys)
inner_append [] ys h g = g
inner_append (x ∷ xs) ys h g = (h.0, inner_append xs ys h.1 g)

inner_ellipsis : (of : ℕ) (e : Option Words) → AreInner (ellipsis_rows of e)
inner_ellipsis of None = tt
inner_ellipsis of (Some ws) = (refl, tt)

mutual
  inner : (t : CType) (n : ℕ) (parent : Parent) → owner_set parent ≡ None → AreInner (rows_of t n parent)
  inner (base ws) n parent none = (none, tt)
  inner (void ws) n parent none = (none, tt)
  inner (struct ws s) n parent none = (none, tt)
  inner (pointer ws t) n parent none = (none, inner t (n + 1) (Inside n) refl)
  inner (function ws ps r e) n parent none =
      let back = n + 1 + sizes ps in
      let last = Result n (numbered_ellipsis e (back + size r)) in (
        none,
        inner_append (param_rows n 0 ps (n + 1)) (rows_of r back last ++ ellipsis_rows n e)
            (inner_params n 0 ps (n + 1))
            (inner_append (rows_of r back last) (ellipsis_rows n e) (inner r back last refl) (inner_ellipsis n e)),
      )

  inner_params : (of i : ℕ) (ts : CTypes) (n : ℕ) → AreInner (param_rows of i ts n)
  inner_params of i no_types n = tt
  inner_params of i (more_types t ts) n =
      inner_append (rows_of t n (Param of i (n + size t))) (param_rows of (i + 1) ts (n + size t))
      (inner t n (Param of i (n + size t)) refl) (inner_params of (i + 1) ts (n + size t))

-- rows inside a skeleton all have its owner
inner_owners : (last : Owner) (rows : List VarRow) → AreInner rows
    → owners_from last rows ≡ replicate (length rows) last
inner_owners last [] h = refl
inner_owners last (row ∷ rows) h =
    let none = h.0 in
    rw none (ap (λ (x : List Owner). last ∷ x) (inner_owners last rows h.1))

-- the root of a skeleton and its other rows
record IsTopped (rows : List VarRow) (parent : Parent) : Type 0 where
  head : VarRow
  tail : List VarRow
  parts : rows ≡ head ∷ tail
  parent_is : head.parent ≡ parent
  rest : AreInner tail

-- the rows of a type are its root under the given parent, and inner rows
topped : (t : CType) (n : ℕ) (parent : Parent) → IsTopped (rows_of t n parent) parent
topped (base ws) n parent = record {
  head = record { node = nodes.Base; parent = parent };
  tail = [];
  parts = refl;
  parent_is = refl;
  rest = tt;
}
topped (void ws) n parent = record {
  head = record { node = nodes.Void; parent = parent };
  tail = [];
  parts = refl;
  parent_is = refl;
  rest = tt;
}
topped (struct ws s) n parent = record {
  head = record { node = nodes.Struct s; parent = parent };
  tail = [];
  parts = refl;
  parent_is = refl;
  rest = tt;
}
topped (pointer ws t) n parent =
    record {
      head = record { node = nodes.Ref; parent = parent };
      tail = rows_of t (n + 1) (Inside n);
      parts = refl;
      parent_is = refl;
      rest = inner t (n + 1) (Inside n) refl;
    }
topped (function ws ps r e) n parent =
    let back = n + 1 + sizes ps in
    let last = Result n (numbered_ellipsis e (back + size r)) in
    record {
      head = record { node = nodes.Fun back; parent = parent };
      tail = param_rows n 0 ps (n + 1) ++ (rows_of r back last ++ ellipsis_rows n e);
      parts = refl;
      parent_is = refl;
      rest = inner_append (param_rows n 0 ps (n + 1)) (rows_of r back last ++ ellipsis_rows n e)
          (inner_params n 0 ps (n + 1))
          (inner_append (rows_of r back last) (ellipsis_rows n e) (inner r back last refl) (inner_ellipsis n e));
    }

-- the rows of a skeleton all have the owner of its root
owners_all : (last owner : Owner) (rows : List VarRow) (parent : Parent) → IsTopped rows parent
    → owner_set parent ≡ Some owner
    → owners_from last rows ≡ replicate (length rows) owner
owners_all last owner rows parent top is =
    let set : owner_set top.head.parent ≡ Some owner = ap owner_set top.parent_is ∙ is in
    rw top.parts (rw set (ap (λ (x : List Owner). owner ∷ x) (inner_owners owner top.tail top.rest)))

-- rows behind others have their own owner, whatever stands before
owners_behind : (last owner : Owner) (xs ys : List VarRow)
    → ((l : Owner) → owners_from l ys ≡ replicate (length ys) owner)
    → owners_from last (xs ++ ys) ≡ owners_from last xs ++ replicate (length ys) owner
owners_behind last owner [] ys h = h last
owners_behind last owner (x ∷ xs) ys h =
    ap (λ (o : List Owner). unwrap_or (owner_set x.parent) last ∷ o)
    (owners_behind (unwrap_or (owner_set x.parent) last) owner xs ys h)

-- the mark that a parent has is that of the first row below it
marked : (rows : List VarRow) (parent : Parent) (mark : ℕ × ℕ) → IsTopped rows parent → mark_set parent ≡ Some mark
    → mark_of rows 0 ≡ Some mark
marked rows parent mark top is =
    let set : mark_set top.head.parent ≡ Some mark = ap mark_set top.parent_is ∙ is in
    rw top.parts set

-- a parent that sets no owner has no unit and token
no_mark : (parent : Parent) → owner_set parent ≡ None → mark_set parent ≡ None
no_mark (OfNobody unit token) e = absurd cc
no_mark (OfFunction unit token f) e = absurd cc
no_mark (Inside of) e = refl
no_mark (Param of i next) e = refl
no_mark (Result of x) e = refl
no_mark (Ellipsis of) e = refl

-- no inner row has a unit and token
inner_marks : (rows : List VarRow) (n : ℕ) → AreInner rows → mark_of rows n ≡ None
inner_marks [] n h = refl
inner_marks (row ∷ rows) zero h = no_mark row.parent h.0
inner_marks (row ∷ rows) (suc n) h = inner_marks rows n h.1

unmarked : (rows : List VarRow) (parent : Parent) (n : ℕ) → IsTopped rows parent → mark_of rows (suc n) ≡ None
unmarked rows parent n top = rw top.parts (inner_marks top.tail n top.rest)

-- a parent that is no constructor names no other row
no_links : (count n : ℕ) (parent : Parent) → above parent ≡ None → IsParentLinked count n parent
no_links count n (OfNobody unit token) e = tt
no_links count n (OfFunction unit token f) e = tt
no_links count n (Inside of) e = absurd cc
no_links count n (Param of i next) e = absurd cc
no_links count n (Result of x) e = absurd cc
no_links count n (Ellipsis of) e = absurd cc

-- a table with the rows of a type behind it, as those of a root, has grown by that skeleton
pub grown : (rows : List VarRow) (t : CType) (n : ℕ) (parent : Parent) (owner : Owner) (mark : ℕ × ℕ) → IsHeld rows
    → n ≡ length rows → length rows + size t ≤ 2 ^ 24
    → above parent ≡ None → owner_set parent ≡ Some owner → mark_set parent ≡ Some mark
    → Grown rows (rows ++ rows_of t n parent) t owner mark
grown rows t n parent owner mark held n_is few no_above owner_is mark_is =
    let added = rows_of t n parent in
    let all = rows ++ added in
    let size_is = rows_length t n parent in
    let count_is : length all ≡ length rows + size t = let l = length-append rows added in omega (arith, l, size_is) in
    let no_link : IsParentLinked (length all) n parent = no_links (length all) n parent no_above in
    let low : AreLinked (length all) 0 all = linked_append (length all) 0 n rows added (omega (arith, n_is))
    (linked_more (length rows) (length all) 0 rows (omega (arith, count_is)) held.linked)
    (linked (length all) t n parent (omega (arith, n_is, count_is)) no_link) in
    let shown : AreShown (seen_in all) n added = are_shown (length all) all n added low
    (λ i row e. get_behind rows added (n + i) i (omega (arith, n_is)) ∙ e) in
    let top = topped t n parent in
    let own_is : owners_of all ≡ owners_of rows ++ replicate (size t) owner =
    subst (λ k. owners_of all ≡ owners_of rows ++ replicate k owner) size_is
    (owners_behind Nobody owner rows added (λ l. owners_all l owner added parent top owner_is)) in
    let many = owners_length Nobody rows in
    let front : (j : ℕ) → j < length rows → skel_of all j ≡ skel_of rows j =
    λ j lt. ap (λ (s : Seen). s.tree) (kept rows added j held.linked lt) in
    let own_front : (j : ℕ) → j < length rows → owner_of all j ≡ owner_of rows j =
    λ j lt. ap (λ (o : List Owner). unwrap_or (slice_get o j) Nobody) own_is
    ∙ ap (λ (o : Option Owner). unwrap_or o Nobody)
    (get_front (owners_of rows) (replicate (size t) owner) j (omega (arith, many, lt))) in
    let own_new : (j : ℕ) → n ≤ j → j < n + size t → owner_of all j ≡ owner =
    λ j lo hi. ap (λ (o : List Owner). unwrap_or (slice_get o j) Nobody) own_is
    ∙ (ap (λ (o : Option Owner). unwrap_or o Nobody)
    (get_behind (owners_of rows) (replicate (size t) owner) j (j - n) (omega (arith, many, lo, n_is)))
    ∙ ap (λ (o : Option Owner). unwrap_or o Nobody) (get_replicate (size t) (j - n) owner (omega (arith, lo, hi)))) in
    let here : IsPlaced (skel_of all) (owner_of all) n (above parent) = rw no_above tt in
    record {
      held = record {
        few = omega (arith, count_is, few);
        linked = low;
        placed = placed_append (skel_of all) (owner_of all) 0 n rows added (omega (arith, n_is))
            (placed_same (skel_of rows) (skel_of all) (owner_of rows) (owner_of all) (length rows) 0 rows
            (omega arith) front own_front held.placed)
            (placed (seen_in all) (owner_of all) owner t n parent shown own_new here);
      };
      skel = subst (λ k. skel_of all k ≡ numbered t k) n_is (read (seen_in all) t n parent shown).tree;
      mark = subst (λ k. mark_of all k ≡ Some mark) n_is (ap
          (λ (r : Option VarRow). Rattle.std.specs.Prelude.option_and_then (λ (row : VarRow). mark_set row.parent) r)
          (get_behind rows added n 0 (omega (arith, n_is))) ∙ marked added parent mark top mark_is);
      inner = λ j lt.
          ap (λ (r : Option VarRow). Rattle.std.specs.Prelude.option_and_then (λ (row : VarRow). mark_set row.parent) r)
          (get_behind rows added j (suc (j - suc n)) (omega (arith, n_is, lt))) ∙ unmarked added parent (j - suc n) top;
      count = count_is;
      owners = own_is;
      kept = record {
        skels = front;
        owners = own_front;
        marks = λ j lt. ap (λ (r : Option VarRow). Rattle.std.specs.Prelude.option_and_then
            (λ (row : VarRow). mark_set row.parent) r) (get_front rows added j lt);
      };
    }
