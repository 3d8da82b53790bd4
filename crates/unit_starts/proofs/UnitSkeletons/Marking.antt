-- Each skeleton of a table is one of those that were added.
use Rattle.std.proofs.Common.{◌≡◌, ◌⊎◌, ℕ, zero, suc, ◌<◌, List, [], ◌∷◌, ◌++◌, length, slice_get, Some, None, inl, inr, refl, sym, ◌∙◌, ap}
use Rattle.qual_base.proofs.Tests.{in_order}
use Rattle.qual_types.specs.declared.row.VarRow.{VarRow}
use Rattle.qual_types.specs.Skel.{numbered}
use Rattle.qual_types.specs.Rows.{skel_of}
use Rattle.qual_types.specs.Table.{Keeps, mark_of}
use Rattle.row_rules.specs.Starting.{Start}
use Rattle.row_rules.specs.Worlds.{Numbered, numbered_from}
use Rattle.unit_starts.specs.PositionLaws.Positions.{IsOneOf}
use Rattle.unit_starts.specs.UnitSkeletons.Found.{AreMarked}

-- a numbered skeleton keeps its index in the list with others behind it
there_front : (xs ys : List Numbered) (n : ℕ) (x : Numbered) → slice_get xs n ≡ Some x → slice_get (xs ++ ys) n ≡ Some x
there_front [] ys n x is = absurd cc
there_front (x ∷ xs) ys zero y is = is
there_front (x ∷ xs) ys (suc n) y is = there_front xs ys n y is

there_behind : (xs ys : List Numbered) (x : Numbered) → slice_get (xs ++ (x ∷ ys)) (length xs) ≡ Some x
there_behind [] ys x = refl
there_behind (y ∷ xs) ys x = there_behind xs ys x

-- one more skeleton
module _ (rows new : List VarRow) (x : Start) (kept : Keeps rows new) (at : ℕ) (same : at ≡ length rows)
    (skel : skel_of new at ≡ numbered x.type (length rows)) (mark : mark_of new at ≡ Some x.at)
    (inner : (n : ℕ) → length rows < n → mark_of new n ≡ None) where
  pub marked_on : (before : List Numbered) → AreMarked rows before
      → AreMarked new (before ++ numbered_from (length rows) (x ∷ []))
  marked_on before marked n named is = by_order (in_order n (length rows))
    where
      this : Numbered
      this = record { start = x; first = length rows }

      old : n < length rows → IsOneOf new (before ++ this ∷ []) n named
      old lt =
          let one = marked n named (sym (kept.marks n lt) ∙ is) in
          record {
            index = one.index;
            one = one.one;
            there = there_front before (this ∷ []) one.index one.one one.there;
            first = one.first;
            at = one.at;
            skeleton = kept.skels n lt ∙ one.skeleton;
          }

      root : n ≡ length rows → IsOneOf new (before ++ this ∷ []) n named
      root e =
          let here : n ≡ at = e ∙ sym same in
          let some : Some x.at ≡ Some named = sym mark ∙ (ap (mark_of new) (sym here) ∙ is) in
          record {
            index = length before;
            one = this;
            there = there_behind before [] this;
            first = sym e;
            at = let eq : x.at ≡ named = cc in eq;
            skeleton = ap (skel_of new) here ∙ (skel ∙ ap (numbered x.type) (sym e));
          }

      part : length rows < n → IsOneOf new (before ++ this ∷ []) n named
      part lt = absurd (let none : None ≡ Some named = sym (inner n lt) ∙ is in cc)

      by_order : (n < length rows) ⊎ ((n ≡ length rows) ⊎ (length rows < n)) → IsOneOf new (before ++ this ∷ []) n named
      by_order (inl lt) = old lt
      by_order (inr (inl e)) = root e
      by_order (inr (inr lt)) = part lt
