-- Types without annotation words, of the first types of a table.
use Rattle.std.proofs.Common.{arith, ◌≡◌, ◌⊎◌, inl, inr, ℕ, zero, suc, ◌+◌, ◌<◌, ◌≤◌, ◌++◌, Bool, true, false, List, [], ◌∷◌, length, length-append, map, slice_get, unwrap_or, None, refl, sym, ◌∙◌, ap}
use Rattle.std.proofs.lemmas.Bool.{cases_lt}
use Rattle.std.proofs.lemmas.Option.{slice_get_past}
use Rattle.type_table.specs.declared.row.TypeRow.{TypeRow}
use Rattle.type_table.specs.Types.{Words, CType, base, function}
use Rattle.type_table.specs.Rows.{grown, row_type, type_of, types_of, types_at, some_where, AreBelow}
use Rattle.name_rules.specs.Pieces.{bare, all_bare, bare_ellipsis}
use Rattle.name_state.specs.NameTypes.Known.{Grows, AreBare, bare_at}
use Rattle.name_state.proofs.NameTypes.Knowing.{same_function}

-- past a table there are base types

-- types grown by rows are as many as they were and the rows
longer : (ts : List CType) (rows : List TypeRow) → length (grown ts rows) ≡ length ts + length rows
longer ts [] = omega arith
longer ts (row ∷ rows) =
    let l = length-append ts (row_type ts row ∷ []) in
    let r = longer (ts ++ row_type ts row ∷ []) rows in
    omega arith

-- a number past the end of a table is of the base type
pub past_is : (rows : List TypeRow) (n : ℕ) → length rows ≤ n → type_of rows n ≡ base []
past_is rows n le =
    let r : length (types_of rows) ≡ 0 + length rows = longer [] rows in
    let p : slice_get (types_of rows) n ≡ None = slice_get_past (types_of rows) n (omega arith) in
    rw p refl

-- in a table that grew
pub bare_grows : (old new : List TypeRow) (bares : List ℕ) → Grows old new → AreBare old bares → AreBare new bares
bare_grows old new bares grows h = record {
  few = let f = h.few in let l = grows.longer in omega arith;
  low = λ n lt. let f = h.low n lt in let l = grows.longer in omega arith;
  same = λ n lt. grows.keeps (bare_at bares n) (h.low n lt) ∙ h.same n lt ∙
      ap bare (sym (grows.keeps n (let f = h.few in omega arith)));
}

pub bare_types : (rows : List TypeRow) (bares ns : List ℕ) → AreBare rows bares → AreBelow (length bares) ns →
    all_bare (types_at (types_of rows) ns) ≡ types_at (types_of rows) (map (bare_at bares) ns)
bare_types rows bares [] h low = refl
bare_types rows bares (n ∷ ns) h low = rw (h.same n low.0, bare_types rows bares ns h low.1) refl

pub bare_below : (rows : List TypeRow) (bares ns : List ℕ) → AreBare rows bares → AreBelow (length bares) ns →
    AreBelow (length rows) (map (bare_at bares) ns)
bare_below rows bares [] h low = tt
bare_below rows bares (n ∷ ns) h low = (h.low n low.0, bare_below rows bares ns h low.1)

pub bare_dots : (e : Bool) (es : Words) → bare_ellipsis (some_where e es) ≡ some_where e []
bare_dots true es = refl
bare_dots false es = refl

pub bare_function : (rows : List TypeRow) (bares ps : List ℕ) (r : ℕ) (e : Bool) (ws es : Words) (t : CType)
    → AreBare rows bares →
    AreBelow (length bares) ps → r < length bares →
    t ≡ function ws (types_at (types_of rows) ps) (type_of rows r) (some_where e es) →
    function [] (types_at (types_of rows) (map (bare_at bares) ps)) (type_of rows (bare_at bares r))
    (some_where e []) ≡ bare t
bare_function rows bares ps r e ws es t h low lt is =
    same_function refl (sym (bare_types rows bares ps h low)) (h.same r lt) (sym (bare_dots e es)) ∙ ap bare (sym is)

-- a function whose parts are without words
pub own_function : (rows : List TypeRow) (bares ps : List ℕ) (r : ℕ) (e : Bool) (t : CType) → AreBare rows bares →
    AreBelow (length bares) ps → r < length bares →
    t ≡ function [] (types_at (types_of rows) ps) (type_of rows r) (some_where e []) →
    map (bare_at bares) ps ≡ ps → bare_at bares r ≡ r → bare t ≡ t
own_function rows bares ps r e t h low lt is params back =
    sym (bare_function rows bares ps r e [] [] t h low lt is) ∙
    same_function refl (ap (types_at (types_of rows)) params) (ap (type_of rows) back) refl ∙ sym is

-- an item pushed at the end changes no item before it
got_front : (xs : List ℕ) (y n d : ℕ) → n < length xs
    → unwrap_or (slice_get (xs ++ y ∷ []) n) d ≡ unwrap_or (slice_get xs n) d
got_front [] y n d lt = absurd (omega arith)
got_front (x ∷ xs) y zero d lt = refl
got_front (x ∷ xs) y (suc n) d lt = got_front xs y n d (omega arith)

got_end : (xs : List ℕ) (y d : ℕ) → unwrap_or (slice_get (xs ++ y ∷ []) (length xs)) d ≡ y
got_end [] y d = refl
got_end (x ∷ xs) y d = got_end xs y d

-- the type of one more
pub bare_more : (old new : List TypeRow) (bares all : List ℕ) (at : ℕ) → AreBare old bares → length bares < length old →
    Grows old new → at < length new → type_of new at ≡ bare (type_of old (length bares)) → all ≡ bares ++ at ∷ [] →
    AreBare new all
bare_more old new bares all at h room grows low is all_is =
    rw all_is (record {
      few = let l = grows.longer in let k = longer in omega arith;
      low = λ n lt. low_by n lt (cases_lt n (length bares));
      same = λ n lt. same_by n lt (cases_lt n (length bares));
    })
  where
    longer : length (bares ++ at ∷ []) ≡ length bares + 1
    longer = length-append bares (at ∷ [])

    grown : AreBare new bares
    grown = bare_grows old new bares grows h

    low_by : (n : ℕ) → n < length (bares ++ at ∷ []) → (n < length bares) ⊎ (length bares ≤ n) →
        bare_at (bares ++ at ∷ []) n < length new
    low_by n lt (inl front) = rw (got_front bares at n n front) (grown.low n front)
    low_by n lt (inr end) =
        let k = longer in
        let e : n ≡ length bares = omega arith in
        rw (e, got_end bares at (length bares)) low

    same_by : (n : ℕ) → n < length (bares ++ at ∷ []) → (n < length bares) ⊎ (length bares ≤ n) →
        type_of new (bare_at (bares ++ at ∷ []) n) ≡ bare (type_of new n)
    same_by n lt (inl front) = ap (type_of new) (got_front bares at n n front) ∙ grown.same n front
    same_by n lt (inr end) =
        let k = longer in
        let e : n ≡ length bares = omega arith in
        rw e (ap (type_of new) (got_end bares at (length bares)) ∙ is ∙ ap bare (sym (grows.keeps (length bares) room)))
