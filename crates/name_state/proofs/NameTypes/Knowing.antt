-- What is known of a table is known of those before it.
use Rattle.std.proofs.Common.{arith, ◌≡◌, ℕ, ◌≤◌, true, false, List, [], ◌∷◌, length, map, Option, refl, ◌∙◌, ap}
use Rattle.type_table.specs.declared.row.Shape.{Shape}
use Rattle.type_table.specs.declared.row.Shape.TheVariants as shapes
use Rattle.type_table.specs.declared.row.TypeRow.{TypeRow}
use Rattle.type_table.specs.Types.{Words, CType, base, void, struct, pointer, function, CTypes}
use Rattle.type_table.specs.Rows.{types_of, types_at, AreBelow, AreParts, Keeps}
use Rattle.name_rules.specs.Pieces.{decayed, is_function}
use Rattle.name_rules.specs.Pieces.{types_in}
use Rattle.name_state.specs.NameTypes.Known.{Knows, Grows}

pub knows_before : (old new : List TypeRow) (t : ℕ → CType) → Grows old new → Knows t new → Knows t old
knows_before old new t grows knows = λ n lt. knows n (let l = grows.longer in omega arith) ∙ grows.keeps n lt

pub grows_push : (old new : List TypeRow) → Keeps old new → length old ≤ length new → Grows old new
grows_push old new keeps longer = record { keeps = keeps; longer = longer }

pub types_known : (rows : List TypeRow) (t : ℕ → CType) (ns : List ℕ) → Knows t rows → AreBelow (length rows) ns
    → types_in (map t ns) ≡ types_at (types_of rows) ns
types_known rows t [] knows low = refl
types_known rows t (n ∷ ns) knows low = rw (knows n low.0) (rw (types_known rows t ns knows low.1) refl)

-- a function decays to a pointer to it
pub decayed_function : (t : CType) → is_function t ≡ true → decayed t ≡ pointer [] t
decayed_function (base ws) is = absurd cc
decayed_function (void ws) is = absurd cc
decayed_function (struct ws n) is = absurd cc
decayed_function (pointer ws t) is = absurd cc
decayed_function (function ws ps r e) is = refl

-- a type that is no function decays to itself
pub decayed_other : (t : CType) → is_function t ≡ false → decayed t ≡ t
decayed_other (base ws) is = refl
decayed_other (void ws) is = refl
decayed_other (struct ws n) is = refl
decayed_other (pointer ws t) is = refl
decayed_other (function ws ps r e) is = absurd cc

pub below_more : (n m : ℕ) (ns : List ℕ) → n ≤ m → AreBelow n ns → AreBelow m ns
below_more n m [] le low = tt
below_more n m (x ∷ ns) le low = (let h = low.0 in omega arith, below_more n m ns le low.1)

-- a shape whose parts are below a number has them below each greater one
pub parts_more : (n m : ℕ) (shape : Shape) → n ≤ m → AreParts n shape → AreParts m shape
parts_more n m shapes.Base le low = tt
parts_more n m shapes.Void le low = tt
parts_more n m (shapes.Ref t) le low = omega arith
parts_more n m (shapes.Fun ps r e) le low = (below_more n m ps.items le low.0, let h = low.1 in omega arith)
parts_more n m (shapes.Struct s) le low = tt

-- function types of the same words, parameters, result and ellipsis are equal
pub same_function : {ws vs : Words} {ps qs : CTypes} {r s : CType} {e f : Option Words} → ws ≡ vs → ps ≡ qs → r ≡ s → e
    ≡ f → function ws ps r e ≡ function vs qs s f
same_function {vs = vs} {ps = ps} {qs = qs} {r = r} {s = s} {e = e} words params back dots =
    ap (λ ws. function ws ps r e) words ∙ ap (λ ps. function vs ps r e) params ∙ ap (λ r. function vs qs r e) back
    ∙ ap (λ e. function vs qs s e) dots
