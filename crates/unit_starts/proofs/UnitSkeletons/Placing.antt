-- Skeletons that are found by their places.
use Rattle.std.proofs.Common.{◌≡◌, ℕ, zero, suc, ◌+◌, ◌<◌, ◌≤◌, arith, Bool, true, false, List, [], ◌∷◌, ◌++◌, length, drop, map, slice_index_or, Option, Some, None, refl, sym, ◌∙◌, ap, subst, append_assoc, if◌then◌else◌}
use Rattle.type_table.specs.Types.{CType, base, void, struct, pointer, function, size}
use Rattle.qual_types.specs.declared.row.VarRow.{VarRow}
use Rattle.qual_types.specs.Skel.{numbered}
use Rattle.qual_types.specs.Rows.{Seen, nothing, seen_at, all_seen, skel_of}
use Rattle.qual_types.specs.Table.{Keeps}
use Rattle.name_rules.specs.Spellings.{Place}
use Rattle.name_rules.specs.Scopes.{is_place}
use Rattle.name_tables.specs.declared.place_map.index.PlaceIndex.{PlaceIndex}
use Rattle.name_tables.specs.PlaceMap.Values.{number_at, or_else, there}
use Rattle.row_rules.specs.Starting.{Start}
use Rattle.row_rules.specs.Worlds.{Numbered, numbered_from, skeleton_among}
use Rattle.unit_starts.specs.declared.start.Start as code
use Rattle.unit_starts.specs.UnitSkeletons.Found.{IsBelow, AreBelow, AreMarked, found_with, skel_or, number_or_none, IsNumbering}

count_seen : (n : ℕ) (rows : List VarRow) → length (all_seen n rows) ≡ length rows
count_seen n [] = refl
count_seen n (row ∷ rows) = ap suc (count_seen (n + 1) rows)

-- past the end nothing of a table is seen
past_seen : (seen : List Seen) (n : ℕ) → length seen ≤ n → seen_at seen n ≡ nothing
past_seen [] n le = refl
past_seen (it ∷ seen) zero le = absurd (omega arith)
past_seen (it ∷ seen) (suc n) le = past_seen seen n (omega arith)

-- past the end of a table its skeleton is nothing
past_table : (rows : List VarRow) (n : ℕ) → length rows ≤ n → skel_of rows n ≡ nothing.tree
past_table rows n le =
    ap (λ (it : Seen). it.tree)
    (past_seen (all_seen 0 rows) n (let e = count_seen 0 rows in omega arith))

-- the skeleton at the number of a place is the one found by the index, in a table that is not full
pub found_all : (rows : List VarRow) (index : PlaceIndex) (p : Place) → length rows ≤ 16777216
    → skel_of rows (number_or_none (number_at index p)) ≡ found_with rows index [] p
found_all rows index p few = by_value (number_at index p)
  where
    by_value : (o : Option ℕ) → skel_of rows (number_or_none o) ≡ skel_or rows o nothing.tree
    by_value None = past_table rows 4294967295 (omega arith)
    by_value (Some n) = refl

-- a type has at least one constructor
some_size : (t : CType) → 1 ≤ size t
some_size (base ws) = omega arith
some_size (void ws) = omega arith
some_size (struct ws n) = omega arith
some_size (pointer ws t) = omega arith
some_size (function ws ps r e) = omega arith

-- one more skeleton
module _ (rows new : List VarRow) (x : Start) (kept : Keeps rows new) (at : ℕ) (same : at ≡ length rows)
    (skel : skel_of new at ≡ numbered x.type (length rows)) (count : length new ≡ length rows + size x.type)
    (index after : PlaceIndex) (below : AreBelow rows index)
    (added : (p : Place) → number_at after p ≡ or_else (number_at index p) (there x.at at p)) where
  pub found_on : (rest : List Start) (p : Place) → found_with new after (numbered_from (length new) rest) p
      ≡ found_with rows index (numbered_from (length rows) (x ∷ rest)) p
  found_on rest p =
      ap (λ (o : Option ℕ). skel_or new o (skeleton_among (numbered_from (length new) rest) p)) (added p)
      ∙ by_value (number_at index p) (below p)
    where
      by_test : (b : Bool)
          → skel_or new (if b then Some at else None) (skeleton_among (numbered_from (length new) rest) p)
          ≡ (if b then numbered x.type (length rows)
          else skeleton_among (numbered_from (length rows + size x.type) rest) p)
      by_test true = skel
      by_test false = ap (λ (n : ℕ). skeleton_among (numbered_from n rest) p) count

      by_value : (o : Option ℕ) → IsBelow (length rows) o
          → skel_or new (or_else o (there x.at at p)) (skeleton_among (numbered_from (length new) rest) p)
          ≡ skel_or rows o (skeleton_among (numbered_from (length rows) (x ∷ rest)) p)
      by_value (Some n) lt = kept.skels n lt
      by_value None is = by_test (is_place x.at p)

  pub below_on : AreBelow new after
  below_on p =
      subst (λ (o : Option ℕ). IsBelow (length new) o) (sym (added p)) (by_value (number_at index p) (below p))
    where
      by_test : (b : Bool) → IsBelow (length new) (if b then Some at else None)
      by_test true = let s = some_size x.type in omega arith
      by_test false = tt

      by_value : (o : Option ℕ) → IsBelow (length rows) o → IsBelow (length new) (or_else o (there x.at at p))
      by_value (Some n) lt = omega arith
      by_value None is = by_test (is_place x.at p)

-- and the others behind it
pub numbering_on : (rows new : List VarRow) (index after : PlaceIndex) (x : Start) (rest all : List Start)
    → IsNumbering rows index (x ∷ rest) all → AreBelow new after → length new ≡ length rows + size x.type
    → ((r : List Start) (p : Place) → found_with new after (numbered_from (length new) r) p
    ≡ found_with rows index (numbered_from (length rows) (x ∷ r)) p)
    → ((before : List Numbered) → AreMarked rows before
    → AreMarked new (before ++ numbered_from (length rows) (x ∷ [])))
    → IsNumbering new after rest all
numbering_on rows new index after x rest all it below count found marked = record {
  below = below;
  count = let c = it.count in omega arith;
  found = λ p. found rest p ∙ it.found p;
  before = it.before ++ numbered_from (length rows) (x ∷ []);
  split = it.split
      ∙ (ap (λ (n : ℕ). it.before ++ (record { start = x; first = length rows } ∷ numbered_from n rest)) (sym count)
      ∙ sym (append_assoc it.before (numbered_from (length rows) (x ∷ [])) (numbered_from (length new) rest)));
  marked = marked it.before it.marked;
}

-- the first of those that are left
pub one_left : {A B : Type 0} (f : A → B) (xs : List A) (i : ℕ) (x : A) → i < length xs → x ≡ slice_index_or xs i x
    → map f (drop i xs) ≡ f x ∷ map f (drop (i + 1) xs)
one_left f [] i x lt is = absurd (omega arith)
one_left f (y ∷ xs) zero x lt is = ap (λ z. f z ∷ map f xs) (sym is)
one_left f (y ∷ xs) (suc i) x lt is =
    let e : suc i + 1 ≡ suc (i + 1) = omega arith in
    rw e (one_left f xs i x (omega arith) is)

-- past its end nothing of a list of skeletons is left
pub none_left : (starts : List code.Start) (i : ℕ) → length starts ≤ i → drop i starts ≡ []
none_left [] zero le = refl
none_left [] (suc i) le = refl
none_left (x ∷ starts) zero le = absurd (omega arith)
none_left (x ∷ starts) (suc i) le = none_left starts i (omega arith)
