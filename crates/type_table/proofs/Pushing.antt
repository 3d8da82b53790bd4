-- A row that is pushed behind the others.
use Rattle.std.proofs.Common.{◌≡◌, ◌+◌, List, [], ◌∷◌, ◌++◌, length, refl, sym, arith, subst}
use Rattle.type_table.specs.declared.row.TypeRow.{TypeRow}
use Rattle.type_table.specs.Types.{Words, CType, size}
use Rattle.type_table.specs.Rows.{row_type, grown, types_of, type_of, AreParts, IsMade, AreMade, Keeps, shown, capped}
use Rattle.type_table.proofs.Growing.{at_front, at_end, longer}

grown_push : (ts : List CType) (rows : List TypeRow) (row : TypeRow)
    → grown ts (rows ++ row ∷ []) ≡ grown ts rows ++ row_type (grown ts rows) row ∷ []
grown_push ts [] row = refl
grown_push ts (m ∷ rows) row = grown_push (ts ++ row_type ts m ∷ []) rows row

as_many : (rows : List TypeRow) → length (types_of rows) ≡ length rows
as_many rows = let r : length (types_of rows) ≡ 0 + length rows = longer [] rows in omega (arith, r)

pub pushed_is : (rows : List TypeRow) (row : TypeRow)
    → type_of (rows ++ row ∷ []) (length rows) ≡ row_type (types_of rows) row
pushed_is rows row =
    rw (grown_push [] rows row, ← (as_many rows)) (at_end (types_of rows) (row_type (types_of rows) row))

pub pushed_keeps : (rows : List TypeRow) (row : TypeRow) → Keeps rows (rows ++ row ∷ [])
pushed_keeps rows row =
    λ n lt. rw (grown_push [] rows row)
    (at_front (types_of rows) (row_type (types_of rows) row) n (let l = as_many rows in omega (arith, lt, l)))

made_push : (ts : List CType) (rows : List TypeRow) (row : TypeRow) → AreMade ts rows → IsMade (grown ts rows) row
    → AreMade ts (rows ++ row ∷ [])
made_push ts [] row made it = (it, tt)
made_push ts (m ∷ rows) row made it = (made.0, made_push (ts ++ row_type ts m ∷ []) rows row made.1 it)

pub pushed_made : (rows : List TypeRow) (row : TypeRow) → AreMade [] rows → AreParts (length rows) row.shape
    → ((ws es : Words) → row.size ≡ capped (size (shown (types_of rows) row.shape ws es)))
    → AreMade [] (rows ++ row ∷ [])
pushed_made rows row made parts sized =
    made_push [] rows row made
    (subst (λ n. AreParts n row.shape) (sym (as_many rows)) parts, sized row.words.items row.ellipsis_words.items)
