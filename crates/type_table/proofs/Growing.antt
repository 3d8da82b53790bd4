-- A row of a table has the type that it shows: the types before it stay as rows are added.
use Rattle.std.proofs.Common.{◌≡◌, ℕ, zero, suc, ◌+◌, ◌<◌, ◌≤◌, List, [], ◌∷◌, ◌++◌, length, slice_get, Some, None, refl, sym, ◌∙◌, ap, arith, subst, length-append}
use Rattle.type_table.specs.declared.row.Shape.{Shape}
use Rattle.type_table.specs.declared.row.Shape.TheVariants as shapes
use Rattle.type_table.specs.declared.row.TypeRow.{TypeRow}
use Rattle.type_table.specs.Types.{Words, CType, base, pointer}
use Rattle.type_table.specs.Rows.{type_at, types_at, shown, row_type, grown, types_of, type_of, AreBelow, AreParts, AreMade, Stands}

-- a type put at the end changes no type before it
pub at_front : (ts : List CType) (x : CType) (j : ℕ) → j < length ts → type_at (ts ++ x ∷ []) j ≡ type_at ts j
at_front [] x j lt = absurd (omega (arith, lt))
at_front (t ∷ ts) x zero lt = refl
at_front (t ∷ ts) x (suc j) lt = at_front ts x j (omega (arith, lt))

pub at_end : (ts : List CType) (x : CType) → type_at (ts ++ x ∷ []) (length ts) ≡ x
at_end [] x = refl
at_end (t ∷ ts) x = at_end ts x

pub one_longer : (ts : List CType) (x : CType) → length (ts ++ x ∷ []) ≡ length ts + 1
one_longer ts x = length-append ts (x ∷ [])

-- types added by rows change no type before them
front : (ts : List CType) (rows : List TypeRow) (j : ℕ) → j < length ts → type_at (grown ts rows) j ≡ type_at ts j
front ts [] j lt = refl
front ts (row ∷ rows) j lt =
    let x = row_type ts row in
    front (ts ++ x ∷ []) rows j (let l = one_longer ts x in omega (arith, lt, l)) ∙ at_front ts x j lt

all_front : (ts : List CType) (rows : List TypeRow) (js : List ℕ) → AreBelow (length ts) js
    → types_at (grown ts rows) js ≡ types_at ts js
all_front ts rows [] low = refl
all_front ts rows (j ∷ js) low = rw (front ts rows j low.0, all_front ts rows js low.1) refl

-- a shape whose parts are among some types shows the same with types added by rows
shown_front : (ts : List CType) (rows : List TypeRow) (shape : Shape) (ws es : Words) → AreParts (length ts) shape
    → shown (grown ts rows) shape ws es ≡ shown ts shape ws es
shown_front ts rows shapes.Base ws es low = refl
shown_front ts rows shapes.Void ws es low = refl
shown_front ts rows (shapes.Ref t) ws es low = ap (λ (x : CType). pointer ws x) (front ts rows t low)
shown_front ts rows (shapes.Fun ps r e) ws es low = rw (all_front ts rows ps.items low.0, front ts rows r low.1) refl
shown_front ts rows (shapes.Struct s) ws es low = refl

-- a row of a table that is made right has the type that it shows, of lower parts, at its number
stands : (ts : List CType) (rows : List TypeRow) (i : ℕ) (row : TypeRow) → AreMade ts rows → slice_get rows i ≡ Some row
    → Stands (grown ts rows) (length ts + i) row
stands ts [] i row made e = absurd cc
stands ts (m ∷ rows) zero row made e =
    let same : m ≡ row = cc in
    let x = row_type ts m in
    let at : length ts + 0 ≡ length ts = omega arith in
    let here = front (ts ++ x ∷ []) rows (length ts) (let l = one_longer ts x in omega (arith, l)) ∙ at_end ts x in
    let all : row_type (grown ts (m ∷ rows)) m ≡ row_type ts m =
    shown_front ts (m ∷ rows) m.shape m.words.items m.ellipsis_words.items made.0.0 in
    rw (at, ← same) (record { is = here ∙ sym all; low = made.0.0; sized = rw here made.0.1 })
stands ts (m ∷ rows) (suc i) row made e =
    let x = row_type ts m in
    let l = one_longer ts x in
    let at : length ts + suc i ≡ length (ts ++ x ∷ []) + i = omega (arith, l) in
    rw at (stands (ts ++ x ∷ []) rows i row made.1 e)

pub row_stands : (rows : List TypeRow) (i : ℕ) (row : TypeRow) → AreMade [] rows → slice_get rows i ≡ Some row
    → Stands (types_of rows) i row
row_stands rows i row made e =
    let at : 0 + i ≡ i = omega arith in
    subst (λ k. Stands (grown [] rows) k row) at (stands [] rows i row made e)

pub longer : (ts : List CType) (rows : List TypeRow) → length (grown ts rows) ≡ length ts + length rows
longer ts [] = omega arith
longer ts (row ∷ rows) =
    let l = one_longer ts (row_type ts row) in
    let r = longer (ts ++ row_type ts row ∷ []) rows in
    omega (arith, l, r)

-- past its end a list has no item
none_past : {A : Type 0} (xs : List A) (i : ℕ) → length xs < i + 1 → slice_get xs i ≡ None
none_past [] i le = refl
none_past (x ∷ xs) zero le = absurd (omega (arith, le))
none_past (x ∷ xs) (suc i) le = none_past xs i (omega (arith, le))

-- a number past the end of a table is of the base type
pub none_is : (rows : List TypeRow) (i : ℕ) → length rows ≤ i → type_of rows i ≡ base []
none_is rows i le =
    let r : length (types_of rows) ≡ 0 + length rows = longer [] rows in
    let p : slice_get (types_of rows) i ≡ None = none_past (types_of rows) i (omega (arith, le, r)) in
    rw p refl
