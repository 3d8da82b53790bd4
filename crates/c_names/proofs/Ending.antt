-- Types by expressions and by names of types, as they end.
use Rattle.std.proofs.Common.{arith, ◌≡◌, ◌∙◌, ap, refl, ℕ, zero, suc, ◌+◌, ◌-◌, ◌<◌, List, [], ◌∷◌, length, drop, map, slice_get, slice_index_or, Option, Some, None, option_map}
use Rattle.std.specs.List.{last_or}
use Rattle.type_table.specs.Types.{CType}
use Rattle.tape_ops.specs.declared.op.Op.{Op}
use Rattle.name_rules.specs.Spellings.{Spelling}
use Rattle.name_rules.specs.Scopes.{Names}
use Rattle.name_rules.specs.Pieces.{bare}
use Rattle.name_rules.specs.Identifiers.{type_or_base}
use Rattle.name_rules.specs.NameSteps.State.{State}
use Rattle.name_rules.specs.NameSteps.Steps.{with_type, part_ended, bare_or_base, typed_by, auto_typed, name_declared}
use Rattle.name_rules.specs.ShapeSteps.State as shape_states
use Rattle.name_rules.specs.ShapeSteps.Steps as shapes
use Rattle.c_names.specs.Parts.{blamed, auto_declared}

-- behind one op more, the shapes along the ops left are those along the tape from that op on
pub shapes_on : (u : Spelling) (s : Names) (tape : List Op) (i : ℕ) (op : Op) (st after : shape_states.State)
    → op ≡ slice_index_or tape i op → i < length tape → after ≡ shapes.step u s st op
    → shapes.run u s after (drop (i + 1) tape) ≡ shapes.run u s st (drop i tape)
shapes_on u s [] i op st after is lt made = absurd (omega arith)
shapes_on u s (x ∷ tape) zero op st after is lt made =
    ap (λ (st : shape_states.State). shapes.run u s st tape) (made ∙ ap (shapes.step u s st) is)
shapes_on u s (x ∷ tape) (suc i) op st after is lt made =
    let e : suc i + 1 ≡ suc (i + 1) = omega arith in rw e (shapes_on u s tape i op st after is (omega arith) made)

bare_made : (o : Option CType) → type_or_base (option_map bare o) ≡ bare_or_base o
bare_made None = refl
bare_made (Some t) = refl

blamed_bare : (u : Spelling) (token : ℕ) (o : Option CType) (st : State)
    → blamed u token (option_map bare o) st ≡ blamed u token o st
blamed_bare u token None st = refl
blamed_bare u token (Some t) st = refl

-- the parts of what a type by an expression makes
pub typed_is : (u : Spelling) (token : ℕ) (o made : Option CType) (st : State) → made ≡ option_map bare o →
    with_type (type_or_base made) (blamed u token made (part_ended st)) ≡ typed_by u token o st
typed_is u token o made st is =
    ap (λ (m : Option CType). with_type (type_or_base m) (blamed u token m (part_ended st))) is ∙
    ap (λ (s : State). with_type (type_or_base (option_map bare o)) s) (blamed_bare u token o (part_ended st)) ∙
    ap (λ (t : CType). with_type t (blamed u token o (part_ended st))) (bare_made o)

-- a name declared with the bare type of a value, or the base type and a fault, is what the step of `auto` makes of it
pub auto_is : (u : Spelling) (token : ℕ) (o made : Option CType) (st : State) → made ≡ option_map bare o →
    name_declared u (auto_declared (type_or_base made) (blamed u token made (part_ended st))) ≡ auto_typed u token o st
auto_is u token o made st is =
    ap (λ (m : Option CType). name_declared u (auto_declared (type_or_base m) (blamed u token m (part_ended st)))) is ∙
    ap (λ (s : State). name_declared u (auto_declared (type_or_base (option_map bare o)) s))
    (blamed_bare u token o (part_ended st)) ∙
    ap (λ (t : CType). name_declared u (auto_declared t (blamed u token o (part_ended st)))) (bare_made o)

-- the last of what a list shows

pub map_last : {A B : Type 0} (f : A → B) (o : Option A) (xs : List A) → last_or (option_map f o) (map f xs)
    ≡ option_map f (last_or o xs)
map_last f o [] = refl
map_last f o (x ∷ xs) = map_last f (Some x) xs

last_from : {A : Type 0} (x : A) (xs : List A) → slice_get (x ∷ xs) (length xs) ≡ last_or (Some x) xs
last_from x [] = refl
last_from x (y ∷ ys) = last_from y ys

pub last_get : {A : Type 0} (xs : List A) → slice_get xs (length xs - 1) ≡ last_or None xs
last_get [] = refl
last_get (x ∷ xs) = let e : length (x ∷ xs) - 1 ≡ length xs = omega arith in rw e (last_from x xs)
