-- What a row shows: it names higher rows alone, which rows behind the table do not change.
use Rattle.std.proofs.Common.{◌≡◌, ℕ, zero, suc, ◌+◌, ◌-◌, ◌<◌, ◌≤◌, List, [], ◌∷◌, ◌++◌, length, slice_get, Some, None, refl, sym, ◌∙◌, ap, arith, subst, unwrap_or}
use Rattle.std.proofs.lemmas.Option.{slice_get_past, slice_get_within}
use Rattle.qual_base.specs.declared.places.Owner.{Owner}
use Rattle.qual_base.specs.declared.places.Owner.TheVariants.{Nobody}
use Rattle.qual_types.specs.declared.row.Node.{Node}
use Rattle.qual_types.specs.declared.row.Node.TheVariants as nodes
use Rattle.qual_types.specs.declared.row.Parent.{Parent}
use Rattle.qual_types.specs.declared.row.Parent.TheVariants.{OfNobody, OfFunction, Inside, Param, Result, Ellipsis}
use Rattle.qual_types.specs.declared.row.VarRow.{VarRow}
use Rattle.qual_types.specs.Skel.{Skel, ref, more_skels}
use Rattle.qual_types.specs.Rows.{Seen, seen_at, tree_seen, params_seen, shown, all_seen, seen_in, skel_of, above, owner_set, owners_from, owners_of}
use Rattle.qual_types.specs.Table.{IsNodeLinked, IsParentLinked, AreLinked, ArePlaced, IsPlaced, IsHeld, IsPast, RowStands, owner_of}

-- a node shows the same skeleton where higher numbers of the table show the same
tree_same : (f g : ℕ → Seen) (count n : ℕ) (node : Node) → IsNodeLinked count n node
    → ((m : ℕ) → n < m → m < count → f m ≡ g m) → tree_seen f n node ≡ tree_seen g n node
tree_same f g count n nodes.Base linked same = refl
tree_same f g count n nodes.Void linked same = refl
tree_same f g count n (nodes.Struct s) linked same = refl
tree_same f g count n nodes.Ref linked same = ap (λ (x : Seen). ref n x.tree) (same (n + 1) (omega arith) linked)
tree_same f g count n (nodes.Fun r) linked same =
    let one : f (n + 1) ≡ g (n + 1) =
    same (n + 1) (omega arith) (let l = linked.0 in let m = linked.1 in omega (arith, l, m)) in
    let two : f r ≡ g r = same r linked.0 linked.1 in
    rw (one, two) refl
tree_same f g count n nodes.Ellipsis linked same = refl

-- a parent shows the same parameters where higher numbers of the table show the same
params_same : (f g : ℕ → Seen) (count n : ℕ) (tree : Skel) (parent : Parent) → IsParentLinked count n parent
    → ((m : ℕ) → n < m → m < count → f m ≡ g m) → params_seen f tree parent ≡ params_seen g tree parent
params_same f g count n tree (OfNobody unit token) linked same = refl
params_same f g count n tree (OfFunction unit token h) linked same = refl
params_same f g count n tree (Inside of) linked same = refl
params_same f g count n tree (Param of i next) linked same =
    ap (λ (x : Seen). more_skels tree x.params) (same next linked.0 linked.1)
params_same f g count n tree (Result of e) linked same = refl
params_same f g count n tree (Ellipsis of) linked same = refl

-- a row shows the same where higher numbers of the table show the same
shown_same : (f g : ℕ → Seen) (count n : ℕ) (row : VarRow) → IsNodeLinked count n row.node
    → IsParentLinked count n row.parent → ((m : ℕ) → n < m → m < count → f m ≡ g m) → shown f n row ≡ shown g n row
shown_same f g count n row node parent same =
    let tree : tree_seen f n row.node ≡ tree_seen g n row.node = tree_same f g count n row.node node same in
    let params : params_seen f (tree_seen f n row.node) row.parent ≡ params_seen g (tree_seen f n row.node) row.parent =
    params_same f g count n (tree_seen f n row.node) row.parent parent same in
    rw (params, tree) refl

behind : (x : Seen) (later : List Seen) (k m : ℕ) → k < m → seen_at later (m - (k + 1)) ≡ seen_at (x ∷ later) (m - k)
behind x later k m lt = let e : m - k ≡ suc (m - (k + 1)) = omega (arith, lt) in rw e refl

-- the links of a row at its number
links_at : (count k : ℕ) (rows : List VarRow) (i : ℕ) (row : VarRow) → AreLinked count k rows
    → slice_get rows i ≡ Some row
    → IsNodeLinked count (k + i) row.node × IsParentLinked count (k + i) row.parent
links_at count k [] i row linked e = absurd cc
links_at count k (r ∷ rows) zero row linked e =
    let same : r ≡ row = cc in
    let at : k + 0 ≡ k = omega arith in
    rw (at, ← same) (linked.0, linked.1)
links_at count k (r ∷ rows) (suc i) row linked e =
    let at : k + suc i ≡ (k + 1) + i = omega arith in
    rw at (links_at count (k + 1) rows i row linked.2 e)

-- a row at its number shows what it names
seen_shown : (count k : ℕ) (rows : List VarRow) (i : ℕ) (row : VarRow) → AreLinked count k rows
    → slice_get rows i ≡ Some row
    → seen_at (all_seen k rows) i ≡ shown (λ m. seen_at (all_seen k rows) (m - k)) (k + i) row
seen_shown count k [] i row linked e = absurd cc
seen_shown count k (r ∷ rows) zero row linked e =
    let same : r ≡ row = cc in
    let at : k + 0 ≡ k = omega arith in
    let later = all_seen (k + 1) rows in
    let x = shown (λ m. seen_at later (m - (k + 1))) k r in
    let is : x ≡ shown (λ m. seen_at (x ∷ later) (m - k)) k r =
    shown_same (λ m. seen_at later (m - (k + 1))) (λ m. seen_at (x ∷ later) (m - k)) count k r linked.0 linked.1
    (λ m lt below. behind x later k m lt) in
    subst (λ (s : VarRow). x ≡ shown (λ m. seen_at (x ∷ later) (m - k)) (k + 0) s) same
    (subst (λ j. x ≡ shown (λ m. seen_at (x ∷ later) (m - k)) j r) (sym at) is)
seen_shown count k (r ∷ rows) (suc i) row linked e =
    let later = all_seen (k + 1) rows in
    let x = shown (λ m. seen_at later (m - (k + 1))) k r in
    let at : (k + 1) + i ≡ k + suc i = omega arith in
    let there = links_at count (k + 1) rows i row linked.2 e in
    let is : seen_at later i ≡ shown (λ m. seen_at later (m - (k + 1))) ((k + 1) + i) row =
    seen_shown count (k + 1) rows i row linked.2 e in
    let more : shown (λ m. seen_at later (m - (k + 1))) ((k + 1) + i) row
    ≡ shown (λ m. seen_at (x ∷ later) (m - k)) ((k + 1) + i) row =
    shown_same (λ m. seen_at later (m - (k + 1))) (λ m. seen_at (x ∷ later) (m - k)) count
    ((k + 1) + i) row there.0 there.1
    (λ m lt below. behind x later k m (omega (arith, lt))) in
    subst (λ j. seen_at later i ≡ shown (λ m. seen_at (x ∷ later) (m - k)) j row) at (is ∙ more)

-- rows behind the table change nothing
seen_keeps : (count k : ℕ) (rows more : List VarRow) (i : ℕ) → AreLinked count k rows → count ≡ k + length rows
    → i < length rows
    → seen_at (all_seen k (rows ++ more)) i ≡ seen_at (all_seen k rows) i
seen_keeps count k [] more i linked all lt = absurd (omega (arith, lt))
seen_keeps count k (r ∷ rows) more zero linked all lt =
    shown_same (λ m. seen_at (all_seen (k + 1) (rows ++ more)) (m - (k + 1)))
    (λ m. seen_at (all_seen (k + 1) rows) (m - (k + 1))) count k r linked.0 linked.1
    (λ m low below.
    seen_keeps count (k + 1) rows more (m - (k + 1)) linked.2 (omega (arith, all)) (omega (arith, all, low, below)))
seen_keeps count k (r ∷ rows) more (suc i) linked all lt =
    seen_keeps count (k + 1) rows more i linked.2 (omega (arith, all)) (omega (arith, lt))

pub kept : (rows more : List VarRow) (n : ℕ) → AreLinked (length rows) 0 rows → n < length rows
    → seen_in (rows ++ more) n ≡ seen_in rows n
kept rows more n linked lt = seen_keeps (length rows) 0 rows more n linked (omega arith) lt

-- what is seen at a row of a linked table is what the row shows by what is seen in the table
pub seen_is : (count : ℕ) (rows : List VarRow) (n : ℕ) (row : VarRow) → AreLinked count 0 rows
    → slice_get rows n ≡ Some row
    → seen_in rows n ≡ shown (seen_in rows) n row
seen_is count rows n row linked e =
    let at : 0 + n ≡ n = omega arith in
    let there = links_at count 0 rows n row linked e in
    let is : seen_in rows n ≡ shown (λ m. seen_at (all_seen 0 rows) (m - 0)) (0 + n) row =
    seen_shown count 0 rows n row linked e in
    let more : shown (λ m. seen_at (all_seen 0 rows) (m - 0)) (0 + n) row ≡ shown (seen_in rows) (0 + n) row =
    shown_same (λ m. seen_at (all_seen 0 rows) (m - 0)) (seen_in rows) count (0 + n) row there.0 there.1
    (λ m lt below. let e : m - 0 ≡ m = omega arith in ap (seen_at (all_seen 0 rows)) e) in
    subst (λ j. seen_in rows n ≡ shown (seen_in rows) j row) at (is ∙ more)

-- each of some placed rows has its parent at its own number
placed_at : (look : ℕ → Skel) (own : ℕ → Owner) (k : ℕ) (rows : List VarRow) (i : ℕ) (row : VarRow)
    → ArePlaced look own k rows → slice_get rows i ≡ Some row
    → IsPlaced look own (k + i) (above row.parent)
placed_at look own k [] i row placed e = absurd cc
placed_at look own k (r ∷ rows) zero row placed e =
    let same : r ≡ row = cc in
    let at : k + 0 ≡ k = omega arith in
    rw (at, ← same) placed.0
placed_at look own k (r ∷ rows) (suc i) row placed e =
    let at : k + suc i ≡ (k + 1) + i = omega arith in
    rw at (placed_at look own (k + 1) rows i row placed.1 e)

-- a row that sets an owner has it
owned_at : (last : Owner) (rows : List VarRow) (i : ℕ) (row : VarRow) (owner : Owner) → slice_get rows i ≡ Some row
    → owner_set row.parent ≡ Some owner
    → slice_get (owners_from last rows) i ≡ Some owner
owned_at last [] i row owner e is = absurd cc
owned_at last (r ∷ rows) zero row owner e is =
    let same : r ≡ row = cc in
    let all : owner_set r.parent ≡ Some owner = rw same is in
    rw all refl
owned_at last (r ∷ rows) (suc i) row owner e is = owned_at (unwrap_or (owner_set r.parent) last) rows i row owner e is

seen_length : (k : ℕ) (rows : List VarRow) → length (all_seen k rows) ≡ length rows
seen_length k [] = refl
seen_length k (r ∷ rows) = let l = seen_length (k + 1) rows in omega (arith, l)

pub owners_length : (last : Owner) (rows : List VarRow) → length (owners_from last rows) ≡ length rows
owners_length last [] = refl
owners_length last (r ∷ rows) = let l = owners_length (unwrap_or (owner_set r.parent) last) rows in omega (arith, l)

-- past a table nothing is seen, and nobody owns it
pub past_is : (rows : List VarRow) (n : ℕ) → length rows ≤ n → IsPast rows n
past_is rows n le =
    let seen : slice_get (all_seen 0 rows) n ≡ None =
    slice_get_past (all_seen 0 rows) n (let l = seen_length 0 rows in omega (arith, l, le)) in
    let own : slice_get (owners_of rows) n ≡ None =
    slice_get_past (owners_of rows) n (let l = owners_length Nobody rows in omega (arith, l, le)) in
    (le, rw seen refl, rw own refl)

-- each row of a table stands at its number, with its links, its parent and its owner
pub row_stands : (rows : List VarRow) (n : ℕ) (row : VarRow) → IsHeld rows → slice_get rows n ≡ Some row
    → RowStands rows n row
row_stands rows n row held e =
    let links = links_at (length rows) 0 rows n row held.linked e in
    let at : 0 + n ≡ n = omega arith in
    record {
      below = slice_get_within rows n row e;
      few = held.few;
      there = e;
      seen = seen_is (length rows) rows n row held.linked e;
      node = subst (λ j. IsNodeLinked (length rows) j row.node) at links.0;
      parent = subst (λ j. IsParentLinked (length rows) j row.parent) at links.1;
      placed = subst (λ j. IsPlaced (skel_of rows) (owner_of rows) j (above row.parent)) at
          (placed_at (skel_of rows) (owner_of rows) 0 rows n row held.placed e);
      owned = λ owner is. let o = owned_at Nobody rows n row owner e is in rw o refl;
    }
